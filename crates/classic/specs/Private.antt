-- What the crate's own functions ask of each other. No public contract cites it, and a reader need not believe it. Assumes nothing.
use Rattle.std.specs.Prelude.{◌≡◌, Bool, true, false, cond, not, ◌&&◌, List, [], ◌∷◌, Float}
use Rattle.std.specs.Bool.{xor}
use Rattle.std.specs.Float.Ieee.{lt, le}
use Rattle.floats.specs.F32.{◌⊖◌, ◌⊗◌, half32, one32}
use Rattle.floats.proofs.Ticks.{cycle}
use Rattle.floats.proofs.Ranges.{Under}
use Rattle.parameter_interpolator.specs.declared.ParameterInterpolator.{ParameterInterpolator}
use Rattle.ranges.specs.Ranges.{frequency_in, unit_in}
use Rattle.rooms.specs.declared.Room.{Room}
use Rattle.rooms.specs.declared.Room.TheVariants.{Unused, Frequency, PulseWidth}
use Rattle.rooms.specs.Steps.{still_one}
use Rattle.rooms.proofs.Guard.{Course}
use Rattle.classic.specs.declared.State.{State}
use Rattle.classic.specs.declared.OscillatorShape.{OscillatorShape}
use Rattle.classic.specs.declared.OscillatorShape.TheVariants.{ImpulseTrain, Saw, Triangle, Slope, Square, SquareBright, SquareDark, SquareTriangle}
use Rattle.classic.specs.declared.output.Output.{Output}
use Rattle.classic.specs.Shapes.{steps_width}
use Rattle.classic.specs.Output.{integrated}
use Rattle.classic.specs.Targets.{frequency_target, width_target}

-- the phase is a binary32 value of at least 0 and below 1, and the others pass their tests
pub record Valid (s : State) : Type 0 where
  pub phase : Under s.phase cycle
  pub frequency : frequency_in s.frequency ≡ true
  pub pw : unit_in s.pw ≡ true

-- the courses of its parameters: the frequency goes to its target, and so does the width where it is stepped
abbrev pub courses : State → Float → Float → OscillatorShape → List Course
courses s frequency pw shape =
    record { room = Frequency; value = s.frequency; target = frequency_target frequency }
    ∷ cond (steps_width shape) (record { room = PulseWidth; value = s.pw; target = width_target (frequency_target frequency) pw } ∷ []) []

-- what stands in the places that are not used
abbrev pub others : OscillatorShape → List ParameterInterpolator
others shape = cond (steps_width shape) (still_one ∷ still_one ∷ still_one ∷ []) (still_one ∷ still_one ∷ still_one ∷ still_one ∷ [])

-- the second room of the walk
abbrev pub width_room : OscillatorShape → Room
width_room shape = cond (steps_width shape) PulseWidth Unused

-- a sample in which `high` turns at the width, and one in which nothing happens
abbrev pub turns_of : OscillatorShape → Bool → Float → Float → Bool
turns_of ImpulseTrain high phase pw = false
turns_of Saw high phase pw = false
turns_of Triangle high phase pw = xor high (lt phase pw)
turns_of Slope high phase pw = xor high (lt phase pw)
turns_of Square high phase pw = xor high (le pw phase)
turns_of SquareBright high phase pw = xor high (le pw phase)
turns_of SquareDark high phase pw = xor high (le pw phase)
turns_of SquareTriangle high phase pw = xor high (le pw phase)

abbrev pub quiet_of : OscillatorShape → Bool → Float → Float → Bool
quiet_of shape high phase pw = not (turns_of shape high phase pw) && not (le one32 phase)

-- the low-pass of the dark square and of the square triangle, by its coefficient and gain
abbrev pub low_passed : State → Float → Float → Float → Output
low_passed s coefficient gain thisSample =
    let lp = integrated s.lp_state coefficient (gain ⊗ (thisSample ⊖ half32)) in
    record { sample = lp; lp_state = lp; hp_state = s.hp_state }
