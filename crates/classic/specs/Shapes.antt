-- The eight shapes of oscillator.rs, lines 17 to 26, by number, and which of them step the width. Assumes nothing.
use Rattle.std.specs.Prelude.{ℕ, Bool, true, false, cond, Option, None, Some, List, [], ◌∷◌, slice_index_or, Float}
use Rattle.floats.specs.F32.{half32}
use Rattle.classic.specs.declared.OscillatorShape.{OscillatorShape}
use Rattle.classic.specs.declared.OscillatorShape.TheVariants.{ImpulseTrain, Saw, Triangle, Slope, Square, SquareBright, SquareDark, SquareTriangle}

-- 02 (i): "the shape 0 to 7 in the order of `OscillatorShape`"
abbrev pub in_order : List (Option OscillatorShape)
in_order = Some ImpulseTrain ∷ Some Saw ∷ Some Triangle ∷ Some Slope ∷ Some Square ∷ Some SquareBright ∷ Some SquareDark ∷ Some SquareTriangle ∷ []

abbrev pub numbered : ℕ → Option OscillatorShape
numbered k = slice_index_or in_order k None

-- 02 (i): "`Triangle` and `SquareTriangle` don't step the pulse width": lines 104 to 107
abbrev pub steps_width : OscillatorShape → Bool
steps_width ImpulseTrain = true
steps_width Saw = true
steps_width Triangle = false
steps_width Slope = true
steps_width Square = true
steps_width SquareBright = true
steps_width SquareDark = true
steps_width SquareTriangle = false

-- the width that a sample is made with: the step, or 0.5
abbrev pub width_of : OscillatorShape → Float → Float
width_of shape step = cond (steps_width shape) step half32

-- the width that a state keeps: the step, which the source stores as it drops the interpolator; where none was taken, what the state had
abbrev pub kept_width : OscillatorShape → Float → Float → Float
kept_width shape step pw = cond (steps_width shape) step pw
