-- Samples and starts of the classic oscillator. What is expected was given by the source's oscillator.rs, run on the same inputs in a block of one sample, its wraps and the changes of
-- its `high` counted; the last row is 02's. Assumes nothing.
use Rattle.std.specs.Prelude.{List, [], ◌∷◌}
use Rattle.classic.specs.declared.OscillatorShape.TheVariants.{ImpulseTrain, Saw, Triangle, Slope, Square, SquareBright, SquareDark, SquareTriangle}
use Rattle.figures.specs.Question.{classic_sample, classic_start}
use Rattle.figures.specs.Rows.{Row, row}

-- Each shape at a wrap and at its width. The impulse train's factors are those of 44,100 samples a second.
abbrev pub classic_rows : List Row
classic_rows =
    -- ImpulseTrain: 0.95 and 0.11 wrap; `high` stays and is not counted
    row (classic_sample ImpulseTrain)
    (0x3f73_3333 ∷ 0x3f66_6666 ∷ 0x3e99_999a ∷ 0x3f59_999a ∷ 1 ∷ 0x3db8_51ec ∷ 0x3ee6_6666 ∷ 0x3e8b_51da ∷ 0x406b_3333 ∷ 0x3de1_47ae ∷ 0x3ecc_cccd ∷ [])
    (0x3f66_b8fd ∷ 0x3d75_c280 ∷ 0x3e27_39ae ∷ 0x3e7b_206c ∷ 0x3f40_5142 ∷ 1 ∷ 0x3de1_47ae ∷ 0x3ecc_cccd ∷ 0x3e8b_51da ∷ 0x406b_3333 ∷ 1 ∷ 0 ∷ 0 ∷ 0 ∷ 0 ∷ [])
    -- 0.35 and 0.11 come past the width 0.4: nothing is crossed
    ∷ row (classic_sample ImpulseTrain)
    (0x3eb3_3333 ∷ 0x3e99_999a ∷ 0xbe4c_cccd ∷ 0x3e80_0000 ∷ 0 ∷ 0x3db8_51ec ∷ 0x3ee6_6666 ∷ 0x3e8b_51da ∷ 0x406b_3333 ∷ 0x3de1_47ae ∷ 0x3ecc_cccd ∷ [])
    (0xbf15_c290 ∷ 0x3eeb_851e ∷ 0x3eeb_851e ∷ 0xbe23_010c ∷ 0x3e99_999a ∷ 0 ∷ 0x3de1_47ae ∷ 0x3ecc_cccd ∷ 0x3e8b_51da ∷ 0x406b_3333 ∷ 0 ∷ 0 ∷ 0 ∷ 0 ∷ 0 ∷ [])
    -- Saw: a wrap, and `high` stays
    ∷ row (classic_sample Saw)
    (0x3f73_3333 ∷ 0x3f66_6666 ∷ 0x3f33_3333 ∷ 0xbf19_999a ∷ 1 ∷ 0x3db8_51ec ∷ 0x3ee6_6666 ∷ 0x3e8b_51da ∷ 0x406b_3333 ∷ 0x3de1_47ae ∷ 0x3ecc_cccd ∷ [])
    (0x3f00_a284 ∷ 0x3d75_c280 ∷ 0x3e27_39ae ∷ 0x3f33_3333 ∷ 0xbf19_999a ∷ 1 ∷ 0x3de1_47ae ∷ 0x3ecc_cccd ∷ 0x3e8b_51da ∷ 0x406b_3333 ∷ 1 ∷ 0 ∷ 0 ∷ 0 ∷ 0 ∷ [])
    -- past the width: nothing is crossed
    ∷ row (classic_sample Saw)
    (0x3eb3_3333 ∷ 0x3e99_999a ∷ 0x3f33_3333 ∷ 0xbf19_999a ∷ 0 ∷ 0x3db8_51ec ∷ 0x3ee6_6666 ∷ 0x3e8b_51da ∷ 0x406b_3333 ∷ 0x3de1_47ae ∷ 0x3ecc_cccd ∷ [])
    (0xbecc_cccc ∷ 0x3eeb_851e ∷ 0x3eeb_851e ∷ 0x3f33_3333 ∷ 0xbf19_999a ∷ 0 ∷ 0x3de1_47ae ∷ 0x3ecc_cccd ∷ 0x3e8b_51da ∷ 0x406b_3333 ∷ 0 ∷ 0 ∷ 0 ∷ 0 ∷ 0 ∷ [])
    -- Triangle: a wrap is a rise; the state's width, 0.3, is kept, and a step to 0.7 is not read
    ∷ row (classic_sample Triangle)
    (0x3f73_3333 ∷ 0x3dcc_cccd ∷ 0x3f33_3333 ∷ 0xbf19_999a ∷ 0 ∷ 0x3db8_51ec ∷ 0x3e99_999a ∷ 0x3e8b_51da ∷ 0x406b_3333 ∷ 0x3de1_47ae ∷ 0x3f33_3333 ∷ [])
    (0xbf44_e812 ∷ 0x3d75_c280 ∷ 0x3e04_419e ∷ 0x3f33_3333 ∷ 0xbf19_999a ∷ 1 ∷ 0x3de1_47ae ∷ 0x3e99_999a ∷ 0x3e8b_51da ∷ 0x406b_3333 ∷ 1 ∷ 1 ∷ 0 ∷ 0 ∷ 0 ∷ [])
    -- 0.45 and 0.11 cross the width, which is 0.5: a fall
    ∷ row (classic_sample Triangle)
    (0x3ee6_6666 ∷ 0x3f66_6666 ∷ 0x3f33_3333 ∷ 0xbf19_999a ∷ 1 ∷ 0x3db8_51ec ∷ 0x3e99_999a ∷ 0x3e8b_51da ∷ 0x406b_3333 ∷ 0x3de1_47ae ∷ 0x3f33_3333 ∷ [])
    (0x3f44_e810 ∷ 0x3f0f_5c29 ∷ 0x3f5e_ef97 ∷ 0x3f33_3333 ∷ 0xbf19_999a ∷ 0 ∷ 0x3de1_47ae ∷ 0x3e99_999a ∷ 0x3e8b_51da ∷ 0x406b_3333 ∷ 0 ∷ 0 ∷ 1 ∷ 0 ∷ 0 ∷ [])
    -- Slope: a wrap is a rise
    ∷ row (classic_sample Slope)
    (0x3f73_3333 ∷ 0x3dcc_cccd ∷ 0x3f33_3333 ∷ 0xbf19_999a ∷ 0 ∷ 0x3db8_51ec ∷ 0x3e99_999a ∷ 0x3e8b_51da ∷ 0x406b_3333 ∷ 0x3de1_47ae ∷ 0x3eb3_3333 ∷ [])
    (0xbf44_2038 ∷ 0x3d75_c280 ∷ 0x3e39_d8b3 ∷ 0x3f33_3333 ∷ 0xbf19_999a ∷ 1 ∷ 0x3de1_47ae ∷ 0x3eb3_3333 ∷ 0x3e8b_51da ∷ 0x406b_3333 ∷ 1 ∷ 1 ∷ 0 ∷ 0 ∷ 0 ∷ [])
    -- 0.3 and 0.11 cross the width 0.35: a fall
    ∷ row (classic_sample Slope)
    (0x3e99_999a ∷ 0x3f4c_cccd ∷ 0x3f33_3333 ∷ 0xbf19_999a ∷ 1 ∷ 0x3db8_51ec ∷ 0x3ecc_cccd ∷ 0x3e8b_51da ∷ 0x406b_3333 ∷ 0x3de1_47ae ∷ 0x3eb3_3333 ∷ [])
    (0x3f10_ed02 ∷ 0x3ed1_eb86 ∷ 0x3f65_cb15 ∷ 0x3f33_3333 ∷ 0xbf19_999a ∷ 0 ∷ 0x3de1_47ae ∷ 0x3eb3_3333 ∷ 0x3e8b_51da ∷ 0x406b_3333 ∷ 0 ∷ 0 ∷ 1 ∷ 0 ∷ 0 ∷ [])
    -- 0.4 and 0.06 are overtaken by the width, which goes from 0.3 to 0.7: a rise, with t near -4
    ∷ row (classic_sample Slope)
    (0x3ecc_cccd ∷ 0x3f40_0000 ∷ 0x3f33_3333 ∷ 0xbf19_999a ∷ 0 ∷ 0x3d4c_cccd ∷ 0x3e99_999a ∷ 0x3e8b_51da ∷ 0x406b_3333 ∷ 0x3d75_c28f ∷ 0x3f33_3333 ∷ [])
    (0x4196_4924 ∷ 0x3eeb_851f ∷ 0x4038_ea0b ∷ 0x3f33_3333 ∷ 0xbf19_999a ∷ 1 ∷ 0x3d75_c28f ∷ 0x3f33_3333 ∷ 0x3e8b_51da ∷ 0x406b_3333 ∷ 0 ∷ 1 ∷ 0 ∷ 0 ∷ 0 ∷ [])
    -- Square: a wrap is a fall
    ∷ row (classic_sample Square)
    (0x3f73_3333 ∷ 0x3f66_6666 ∷ 0x3f33_3333 ∷ 0xbf19_999a ∷ 1 ∷ 0x3db8_51ec ∷ 0x3e99_999a ∷ 0x3e8b_51da ∷ 0x406b_3333 ∷ 0x3de1_47ae ∷ 0x3eb3_3333 ∷ [])
    (0x3f00_a284 ∷ 0x3d75_c280 ∷ 0x3dd3_921c ∷ 0x3f33_3333 ∷ 0xbf19_999a ∷ 0 ∷ 0x3de1_47ae ∷ 0x3eb3_3333 ∷ 0x3e8b_51da ∷ 0x406b_3333 ∷ 1 ∷ 0 ∷ 1 ∷ 0 ∷ 0 ∷ [])
    -- 0.3 and 0.11 cross the width 0.35: a rise
    ∷ row (classic_sample Square)
    (0x3e99_999a ∷ 0x3dcc_cccd ∷ 0x3f33_3333 ∷ 0xbf19_999a ∷ 0 ∷ 0x3db8_51ec ∷ 0x3ecc_cccd ∷ 0x3e8b_51da ∷ 0x406b_3333 ∷ 0x3de1_47ae ∷ 0x3eb3_3333 ∷ [])
    (0xbf00_a277 ∷ 0x3ed1_eb86 ∷ 0x3f65_8dc3 ∷ 0x3f33_3333 ∷ 0xbf19_999a ∷ 1 ∷ 0x3de1_47ae ∷ 0x3eb3_3333 ∷ 0x3e8b_51da ∷ 0x406b_3333 ∷ 0 ∷ 1 ∷ 0 ∷ 0 ∷ 0 ∷ [])
    -- 0.4 and 0.06 are overtaken by the width, which goes from 0.3 to 0.7: a fall, with t near -4
    ∷ row (classic_sample Square)
    (0x3ecc_cccd ∷ 0x3f66_6666 ∷ 0x3f33_3333 ∷ 0xbf19_999a ∷ 1 ∷ 0x3d4c_cccd ∷ 0x3e99_999a ∷ 0x3e8b_51da ∷ 0x406b_3333 ∷ 0x3d75_c28f ∷ 0x3f33_3333 ∷ [])
    (0x4186_6665 ∷ 0x3eeb_851f ∷ 0xc148_0000 ∷ 0x3f33_3333 ∷ 0xbf19_999a ∷ 0 ∷ 0x3d75_c28f ∷ 0x3f33_3333 ∷ 0x3e8b_51da ∷ 0x406b_3333 ∷ 0 ∷ 0 ∷ 1 ∷ 0 ∷ 0 ∷ [])
    -- SquareBright: a wrap is a fall
    ∷ row (classic_sample SquareBright)
    (0x3f73_3333 ∷ 0x3f66_6666 ∷ 0x3e99_999a ∷ 0xbf19_999a ∷ 1 ∷ 0x3db8_51ec ∷ 0x3e99_999a ∷ 0x3e8b_51da ∷ 0x406b_3333 ∷ 0x3de1_47ae ∷ 0x3eb3_3333 ∷ [])
    (0x3da1_b982 ∷ 0x3d75_c280 ∷ 0x3dd3_921c ∷ 0x3eb0_6847 ∷ 0xbf19_999a ∷ 0 ∷ 0x3de1_47ae ∷ 0x3eb3_3333 ∷ 0x3e8b_51da ∷ 0x406b_3333 ∷ 1 ∷ 0 ∷ 1 ∷ 0 ∷ 0 ∷ [])
    -- a crossing is a rise
    ∷ row (classic_sample SquareBright)
    (0x3e99_999a ∷ 0x3dcc_cccd ∷ 0xbecc_cccd ∷ 0xbf19_999a ∷ 0 ∷ 0x3db8_51ec ∷ 0x3ecc_cccd ∷ 0x3e8b_51da ∷ 0x406b_3333 ∷ 0x3de1_47ae ∷ 0x3eb3_3333 ∷ [])
    (0xbd23_b440 ∷ 0x3ed1_eb86 ∷ 0x3f65_8dc3 ∷ 0xbed8_57de ∷ 0xbf19_999a ∷ 1 ∷ 0x3de1_47ae ∷ 0x3eb3_3333 ∷ 0x3e8b_51da ∷ 0x406b_3333 ∷ 0 ∷ 1 ∷ 0 ∷ 0 ∷ 0 ∷ [])
    -- SquareDark: a wrap is a fall
    ∷ row (classic_sample SquareDark)
    (0x3f73_3333 ∷ 0x3f66_6666 ∷ 0x3fa6_6666 ∷ 0xbf19_999a ∷ 1 ∷ 0x3db8_51ec ∷ 0x3e99_999a ∷ 0x3e8b_51da ∷ 0x406b_3333 ∷ 0x3de1_47ae ∷ 0x3eb3_3333 ∷ [])
    (0x3f9e_1777 ∷ 0x3d75_c280 ∷ 0x3dd3_921c ∷ 0x3f9e_1777 ∷ 0xbf19_999a ∷ 0 ∷ 0x3de1_47ae ∷ 0x3eb3_3333 ∷ 0x3e8b_51da ∷ 0x406b_3333 ∷ 1 ∷ 0 ∷ 1 ∷ 0 ∷ 0 ∷ [])
    -- a crossing is a rise
    ∷ row (classic_sample SquareDark)
    (0x3e99_999a ∷ 0x3dcc_cccd ∷ 0xbfb3_3333 ∷ 0xbf19_999a ∷ 0 ∷ 0x3db8_51ec ∷ 0x3ecc_cccd ∷ 0x3e8b_51da ∷ 0x406b_3333 ∷ 0x3de1_47ae ∷ 0x3eb3_3333 ∷ [])
    (0xbfa8_135c ∷ 0x3ed1_eb86 ∷ 0x3f65_8dc3 ∷ 0xbfa8_135c ∷ 0xbf19_999a ∷ 1 ∷ 0x3de1_47ae ∷ 0x3eb3_3333 ∷ 0x3e8b_51da ∷ 0x406b_3333 ∷ 0 ∷ 1 ∷ 0 ∷ 0 ∷ 0 ∷ [])
    -- SquareTriangle: a wrap is a fall; the width is kept as Triangle keeps it
    ∷ row (classic_sample SquareTriangle)
    (0x3f73_3333 ∷ 0x3f66_6666 ∷ 0x3e99_999a ∷ 0xbf19_999a ∷ 1 ∷ 0x3db8_51ec ∷ 0x3e99_999a ∷ 0x3e8b_51da ∷ 0x406b_3333 ∷ 0x3de1_47ae ∷ 0x3f33_3333 ∷ [])
    (0x3f04_df0f ∷ 0x3d75_c280 ∷ 0x3dd3_921c ∷ 0x3f04_df0f ∷ 0xbf19_999a ∷ 0 ∷ 0x3de1_47ae ∷ 0x3e99_999a ∷ 0x3e8b_51da ∷ 0x406b_3333 ∷ 1 ∷ 0 ∷ 1 ∷ 0 ∷ 0 ∷ [])
    -- 0.45 and 0.11 cross the width, which is 0.5: a rise
    ∷ row (classic_sample SquareTriangle)
    (0x3ee6_6666 ∷ 0x3dcc_cccd ∷ 0xbecc_cccd ∷ 0xbf19_999a ∷ 0 ∷ 0x3db8_51ec ∷ 0x3e99_999a ∷ 0x3e8b_51da ∷ 0x406b_3333 ∷ 0x3de1_47ae ∷ 0x3f33_3333 ∷ [])
    (0xbf1e_4b97 ∷ 0x3f0f_5c29 ∷ 0x3f65_8dc1 ∷ 0xbf1e_4b97 ∷ 0xbf19_999a ∷ 1 ∷ 0x3de1_47ae ∷ 0x3e99_999a ∷ 0x3e8b_51da ∷ 0x406b_3333 ∷ 0 ∷ 1 ∷ 0 ∷ 0 ∷ 0 ∷ [])
    -- the start at 48,000: the factors are 0.25 and 4
    ∷ row classic_start (0x473b_8000 ∷ []) (0 ∷ 0x3f00_0000 ∷ 0 ∷ 0x3f80_0000 ∷ 0 ∷ 1 ∷ 0x3a83_126f ∷ 0x3f00_0000 ∷ 0x3e80_0000 ∷ 0x4080_0000 ∷ [])
    -- at 44,100
    ∷ row classic_start (0x472c_4400 ∷ []) (0 ∷ 0x3f00_0000 ∷ 0 ∷ 0x3f80_0000 ∷ 0 ∷ 1 ∷ 0x3a83_126f ∷ 0x3f00_0000 ∷ 0x3e8b_51da ∷ 0x406b_3333 ∷ [])
    -- 384,001 is refused, and the state stays: here `new`'s
    ∷ row classic_start (0x48bb_8020 ∷ []) (4 ∷ 0 ∷ 0 ∷ 0 ∷ 0 ∷ 0 ∷ 0 ∷ 0 ∷ 0 ∷ 0 ∷ [])
    ∷ []
