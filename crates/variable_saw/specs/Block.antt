-- The variable saw as an oscillator of `block`: variable_saw_oscillator.rs, lines 44 to 111, with 01's checks before it. Assumes nothing.
use Rattle.block.specs.Checks.{◌unless◌}
use Rattle.std.specs.Prelude.{Bool, cond, List, [], ◌∷◌, ℕ, length, Float, Result}
use Rattle.floats.specs.F32.{zero32, top_sum}
use Rattle.parameter_interpolator.specs.declared.ParameterInterpolator.{ParameterInterpolator}
use Rattle.parameter_interpolator.specs.Interpolator.{new_interpolator}
use Rattle.rooms.specs.declared.Room.{Room}
use Rattle.rooms.specs.declared.Room.TheVariants.{Frequency, PulseWidth, Waveshape}
use Rattle.ranges.specs.Targets.{clipped, clamped_width}
use Rattle.ranges.specs.Ranges.{within, phase_in, frequency_in, parameter_frequency_in, unit_in, waveshape_in, all_of}
use Rattle.block.specs.declared.Counts.{Counts}
use Rattle.block.specs.declared.refusal.Refusal.{Refusal}
use Rattle.block.specs.Calls.{Call, gave}
use Rattle.block.specs.Oscillator.{Oscillator, call_of}
use Rattle.variable_saw.specs.declared.State.{State}
use Rattle.variable_saw.specs.Sample.{sample_at}

-- 01, "State": the phase is at least 0, and below 1 when `high` is false, at most 81/64 when it is true
abbrev pub saw_phase_in : Bool → Float → Bool
saw_phase_in high phase = cond high (within zero32 top_sum phase) (phase_in phase)

-- the widths 0 to 1, the frequency 0 to 17/64, the waveshape -1 to 2, `next_sample` any bits
unfoldable pub state_in : State → Bool
state_in s =
    all_of
    (saw_phase_in s.high s.phase
    ∷ unit_in s.previous_pw
    ∷ frequency_in s.frequency
    ∷ unit_in s.pw
    ∷ waveshape_in s.waveshape
    ∷ [])

-- 01, "Parameters": the frequency from MIN_FREQUENCY to 1, the width and the waveshape from 0 to 1
unfoldable pub parameters_in : Float → Float → Float → Bool
parameters_in frequency pw waveshape = all_of (parameter_frequency_in frequency ∷ unit_in pw ∷ unit_in waveshape ∷ [])

-- what a call is given beside the state
pub record Arguments : Type 0 where
  pub frequency : Float
  pub pw : Float
  pub waveshape : Float
  pub buffer : List Float

-- lines 45 to 58: the width's target is what the clipped frequency allows
abbrev pub interpolators : State → Float → Float → Float → ℕ → List ParameterInterpolator
interpolators s frequency pw waveshape n =
    new_interpolator s.frequency (clipped frequency) n
    ∷ new_interpolator s.pw (clamped_width (clipped frequency) pw) n
    ∷ new_interpolator s.waveshape waveshape n
    ∷ []

-- 01, "Rooms": the frequency above 0 and at most 17/64, the width strictly between 0 and 1, the waveshape -1 to 2
abbrev pub rooms : List Room
rooms = Frequency ∷ PulseWidth ∷ Waveshape ∷ []

-- its only phase is the one whose wraps are cycles, and the first step moves it
abbrev pub variable_saw : Oscillator State Arguments
variable_saw = record {
  buffer = λ a. a.buffer;
  checks = λ s a. 3 unless state_in s ∷ 4 unless parameters_in a.frequency a.pw a.waveshape ∷ [];
  moving = λ s a. interpolators s a.frequency a.pw a.waveshape (length a.buffer);
  rooms = λ a. rooms;
  sample = λ a. sample_at;
  phases = λ s. s.phase ∷ [];
  phase = λ s. s.phase;
  phase_step = 0;
}

-- the call of these arguments
abbrev pub render_of : State → Float → Float → Float → List Float → Call State
render_of s frequency pw waveshape xs = call_of variable_saw s (record { frequency = frequency; pw = pw; waveshape = waveshape; buffer = xs })

-- what a call returned, and left in the state and in the buffer, in 01's numbers
abbrev pub as_call : Result Counts Refusal → State → List Float → Call State
as_call = gave
