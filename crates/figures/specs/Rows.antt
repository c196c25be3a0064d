-- 01's figures, each with what it asks, the inputs and the expected answer. Assumes nothing.
use Rattle.std.specs.Prelude.{List, [], ◌∷◌, map, ℕ}
use Rattle.figures.specs.Question.{Question, this_blep, next_blep, next_integrated_blep, interpolation, whole_part, super_square_factor, super_square_sample, pulse_width, saw_samples, shape_sample, answer_to}

pub record Row : Type 0 where
  pub asked : Question
  pub inputs : List ℕ
  pub expected : List ℕ

abbrev pub row : Question → List ℕ → List ℕ → Row
row asked inputs expected = record { asked = asked; inputs = inputs; expected = expected }

abbrev pub rows : List Row
rows =
    -- P1: 0 gives 0
    row this_blep (0 ∷ []) (0 ∷ [])
    -- 0.5 gives 0.125
    ∷ row this_blep (0x3f00_0000 ∷ []) (0x3e00_0000 ∷ [])
    -- 1 gives 0.5
    ∷ row this_blep (0x3f80_0000 ∷ []) (0x3f00_0000 ∷ [])
    -- P2: 0 gives -0.5
    ∷ row next_blep (0 ∷ []) (0xbf00_0000 ∷ [])
    -- 0.5 gives -0.125
    ∷ row next_blep (0x3f00_0000 ∷ []) (0xbe00_0000 ∷ [])
    -- 1 gives -0.0
    ∷ row next_blep (0x3f80_0000 ∷ []) (0x8000_0000 ∷ [])
    -- P3: 0 gives 0.1875
    ∷ row next_integrated_blep (0 ∷ []) (0x3e40_0000 ∷ [])
    -- 0.5 gives 0.02734375
    ∷ row next_integrated_blep (0x3f00_0000 ∷ []) (0x3ce0_0000 ∷ [])
    -- 1 gives 0
    ∷ row next_integrated_blep (0x3f80_0000 ∷ []) (0 ∷ [])
    -- P4: from 0 to 0.25 over 4 goes by 0.0625, 0.125, 0.1875 and 0.25
    ∷ row interpolation (0 ∷ 0x3e80_0000 ∷ 4 ∷ []) (0x3d80_0000 ∷ 0x3e00_0000 ∷ 0x3e40_0000 ∷ 0x3e80_0000 ∷ [])
    -- P5: 7.96875 gives 7
    ∷ row whole_part (0x40ff_0000 ∷ []) (7 ∷ [])
    -- 8 gives 8
    ∷ row whole_part (0x4100_0000 ∷ []) (8 ∷ [])
    -- P6: shape 0.5 gives 1
    ∷ row super_square_factor (0x3f00_0000 ∷ []) (0x3f80_0000 ∷ [])
    -- 1 gives 5
    ∷ row super_square_factor (0x3f80_0000 ∷ []) (0x40a0_0000 ∷ [])
    -- P7: width 0 at frequency 0.125 becomes 0.25
    ∷ row pulse_width (0x3e00_0000 ∷ 0 ∷ []) (0x3e80_0000 ∷ [])
    -- 0.9 at 0.25 becomes 0.5
    ∷ row pulse_width (0x3e80_0000 ∷ 0x3f66_6666 ∷ []) (0x3f00_0000 ∷ [])
    -- P8: 0.875 plus 0.25 is one cycle, with the phase 0.125 and the reset time 0.5
    ∷ row super_square_sample (0x3f60_0000 ∷ 0x3e80_0000 ∷ []) (1 ∷ 0x3e00_0000 ∷ 0x3f00_0000 ∷ [])
    -- P9: low, 0.875, step 0.25, width 0.5 steady: a rise with t = 2.5, phase 1.125; the next sample wraps to 0.375
    ∷ row saw_samples (0x3f60_0000 ∷ 0x3e80_0000 ∷ 0x3f00_0000 ∷ []) (1 ∷ 0x4020_0000 ∷ 0x3f90_0000 ∷ 1 ∷ 0x3ec0_0000 ∷ [])
    -- P10: low, 0.875, step 0.25, width 0.0625 steady: rise, fall, rise; phase 0.125
    ∷ row shape_sample (0x3f60_0000 ∷ 0x3e80_0000 ∷ 0x3d80_0000 ∷ []) (2 ∷ 1 ∷ 1 ∷ 0x3e00_0000 ∷ [])
    ∷ []

abbrev pub answers : List Row → List (List ℕ)
answers rows = map (λ r. answer_to r.asked r.inputs) rows

abbrev pub expectations : List Row → List (List ℕ)
expectations rows = map (λ r. r.expected) rows
