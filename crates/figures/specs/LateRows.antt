-- Samples in which a crossing meets a reset, 02 (iii), and what they count: cycles, rises, falls, cuts, late rises, late falls. In all but the NaN's no operation rounds, so that
-- t and the reset time can be worked out by hand. Calls with these phases, steps and widths are among the recorded ones. Assumes nothing.
use Rattle.std.specs.Prelude.{true, false, List, [], ◌∷◌}
use Rattle.figures.specs.Question.{shape_crossings, square_crossings}
use Rattle.figures.specs.Rows.{Row, row}

-- The inputs are the master's phase and step, the slave's phase and step, of the shape the width before and this sample's, and whether it is high.
abbrev pub late_rows : List Row
late_rows =
    -- A late rise: the width came down past the phase, t = 0.125 / 0.5 and the reset time 0.5. The cut is due to it alone.
    row (shape_crossings true)
    (0x3f60_0000 ∷ 0x3e80_0000 ∷ 0x3e80_0000 ∷ 0x3e00_0000 ∷ 0x3f20_0000 ∷ 0x3e80_0000 ∷ 0 ∷ [])
    (1 ∷ 0 ∷ 0 ∷ 1 ∷ 1 ∷ 0 ∷ [])
    -- A rise that is not late, t = 0.28125 / 0.125, and a late fall, t = 0.03125 / 0.125; the reset time 0.5.
    ∷ row (shape_crossings true)
    (0x3f60_0000 ∷ 0x3e80_0000 ∷ 0x3f68_0000 ∷ 0x3e00_0000 ∷ 0x3f40_0000 ∷ 0x3f40_0000 ∷ 0 ∷ [])
    (1 ∷ 1 ∷ 0 ∷ 0 ∷ 0 ∷ 1 ∷ [])
    -- Both late in one sample: t = 0.65625 / 0.75, then 0.03125 / 0.125; the reset time 0.9375.
    ∷ row (shape_crossings true)
    (0x3f7c_0000 ∷ 0x3e80_0000 ∷ 0x3f68_0000 ∷ 0x3e00_0000 ∷ 0x3f80_0000 ∷ 0x3ec0_0000 ∷ 0 ∷ [])
    (1 ∷ 0 ∷ 0 ∷ 0 ∷ 1 ∷ 1 ∷ [])
    -- Master and slave in step: t is the reset time, 0.5, and the fall is not late.
    ∷ row (shape_crossings true)
    (0x3f70_0000 ∷ 0x3e00_0000 ∷ 0x3f70_0000 ∷ 0x3e00_0000 ∷ 0x3f00_0000 ∷ 0x3f00_0000 ∷ 1 ∷ [])
    (1 ∷ 0 ∷ 1 ∷ 0 ∷ 0 ∷ 0 ∷ [])
    -- A negative t, 0.125 / -0.25, is late: at the reset time 0.5
    ∷ row (shape_crossings true)
    (0x3f60_0000 ∷ 0x3e80_0000 ∷ 0x3f00_0000 ∷ 0x3e00_0000 ∷ 0x3e00_0000 ∷ 0x3f00_0000 ∷ 0 ∷ [])
    (1 ∷ 0 ∷ 0 ∷ 1 ∷ 1 ∷ 0 ∷ [])
    -- and at the reset time 0.
    ∷ row (shape_crossings true)
    (0x3f40_0000 ∷ 0x3e80_0000 ∷ 0x3f00_0000 ∷ 0x3e00_0000 ∷ 0x3e00_0000 ∷ 0x3f00_0000 ∷ 0 ∷ [])
    (1 ∷ 0 ∷ 0 ∷ 1 ∷ 1 ∷ 0 ∷ [])
    -- Without a reset the same t is not late: with sync
    ∷ row (shape_crossings true)
    (0x3e80_0000 ∷ 0x3e80_0000 ∷ 0x3f00_0000 ∷ 0x3e00_0000 ∷ 0x3e00_0000 ∷ 0x3f00_0000 ∷ 0 ∷ [])
    (0 ∷ 1 ∷ 0 ∷ 0 ∷ 0 ∷ 0 ∷ [])
    -- and without.
    ∷ row (shape_crossings false)
    (0x3f40_0000 ∷ 0x3e80_0000 ∷ 0x3f00_0000 ∷ 0x3e00_0000 ∷ 0x3e00_0000 ∷ 0x3f00_0000 ∷ 0 ∷ [])
    (0 ∷ 1 ∷ 0 ∷ 0 ∷ 0 ∷ 0 ∷ [])
    -- t is 0 / 0, and a NaN is not late at the reset time 2^-7.
    ∷ row (shape_crossings true)
    (0x3f40_8000 ∷ 0x3e80_0000 ∷ 0x3f3f_ffe0 ∷ 0x3600_0000 ∷ 0x3f3f_ffe0 ∷ 0x3f40_0000 ∷ 0 ∷ [])
    (1 ∷ 1 ∷ 0 ∷ 1 ∷ 0 ∷ 0 ∷ [])
    -- The super square: a rise that is not late, t = 0.53125 / 0.125, and a late fall, t = 0.03125 / 0.125; the reset time 0.5.
    ∷ row square_crossings
    (0x3f70_0000 ∷ 0x3e00_0000 ∷ 0x3f68_0000 ∷ 0x3e00_0000 ∷ 0 ∷ [])
    (1 ∷ 1 ∷ 0 ∷ 0 ∷ 0 ∷ 1 ∷ [])
    -- In step, low: t = 4.5 and then the reset time, 0.5. Neither is late.
    ∷ row square_crossings
    (0x3f70_0000 ∷ 0x3e00_0000 ∷ 0x3f70_0000 ∷ 0x3e00_0000 ∷ 0 ∷ [])
    (1 ∷ 1 ∷ 1 ∷ 0 ∷ 0 ∷ 0 ∷ [])
    ∷ []
