-- The classic oscillator as an oscillator of `block`: oscillator.rs, lines 66 to 232, with 01's checks before it. Assumes nothing.
use Rattle.block.specs.Checks.{◌unless◌}
use Rattle.std.specs.Prelude.{ℕ, Bool, cond, List, [], ◌∷◌, length, Float, Result}
use Rattle.parameter_interpolator.specs.declared.ParameterInterpolator.{ParameterInterpolator}
use Rattle.parameter_interpolator.specs.Interpolator.{new_interpolator}
use Rattle.rooms.specs.declared.Room.{Room}
use Rattle.rooms.specs.declared.Room.TheVariants.{Frequency, PulseWidth}
use Rattle.ranges.specs.Ranges.{phase_in, frequency_in, parameter_frequency_in, unit_in, all_of}
use Rattle.block.specs.declared.Counts.{Counts}
use Rattle.block.specs.declared.refusal.Refusal.{Refusal}
use Rattle.block.specs.Calls.{Call, gave}
use Rattle.block.specs.Oscillator.{Oscillator, call_of}
use Rattle.classic.specs.declared.State.{State}
use Rattle.classic.specs.declared.OscillatorShape.{OscillatorShape}
use Rattle.classic.specs.Shapes.{steps_width}
use Rattle.classic.specs.Targets.{frequency_target, width_target}
use Rattle.classic.specs.Sample.{sample_at}

-- 01, "State": the phase at least 0 and below 1, the frequency 0 to 17/64, the width 0 to 1. 02 (i): "filter states and impulse train factors may hold any bits", as `next_sample` may
unfoldable pub state_in : State → Bool
state_in s = all_of (phase_in s.phase ∷ frequency_in s.frequency ∷ unit_in s.pw ∷ [])

-- 01, "Parameters": the frequency from MIN_FREQUENCY to 1, the width from 0 to 1, for every shape
unfoldable pub parameters_in : Float → Float → Bool
parameters_in frequency pw = all_of (parameter_frequency_in frequency ∷ unit_in pw ∷ [])

-- what a call is given beside the state
pub record Arguments : Type 0 where
  pub frequency : Float
  pub pw : Float
  pub shape : OscillatorShape
  pub buffer : List Float

-- lines 77 to 85. These are those that the source steps: the width's only for shapes that step it (lines 104 to 107)
abbrev pub interpolators : State → Float → Float → OscillatorShape → ℕ → List ParameterInterpolator
interpolators s frequency pw shape n =
    new_interpolator s.frequency (frequency_target frequency) n
    ∷ cond (steps_width shape) (new_interpolator s.pw (width_target (frequency_target frequency) pw) n ∷ []) []

-- 01, "Rooms": the frequency above 0 and at most 17/64, the width strictly between 0 and 1; 02 (i): where it is not stepped "it must not drift either"
abbrev pub rooms : OscillatorShape → List Room
rooms shape = Frequency ∷ cond (steps_width shape) (PulseWidth ∷ []) []

-- its only phase is the one whose wraps are cycles, and the first step moves it
abbrev pub classic : Oscillator State Arguments
classic = record {
  buffer = λ a. a.buffer;
  checks = λ s a. 3 unless state_in s ∷ 4 unless parameters_in a.frequency a.pw ∷ [];
  moving = λ s a. interpolators s a.frequency a.pw a.shape (length a.buffer);
  rooms = λ a. rooms a.shape;
  sample = λ a. sample_at a.shape;
  phases = λ s. s.phase ∷ [];
  phase = λ s. s.phase;
  phase_step = 0;
}

-- the call of these arguments
abbrev pub render_of : State → Float → Float → OscillatorShape → List Float → Call State
render_of s frequency pw shape xs = call_of classic s (record { frequency = frequency; pw = pw; shape = shape; buffer = xs })

-- what a call returned, and left in the state and in the buffer, in 01's numbers
abbrev pub as_call : Result Counts Refusal → State → List Float → Call State
as_call = gave
