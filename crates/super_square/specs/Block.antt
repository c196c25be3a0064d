-- The super square as an oscillator of `block`: super_square_oscillator.rs, lines 38 to 132, with 01's checks before it. Assumes nothing.
use Rattle.block.specs.Checks.{◌unless◌}
use Rattle.std.specs.Prelude.{Bool, cond, List, [], ◌∷◌, ℕ, length, Float, Result}
use Rattle.std.specs.Float.Ieee.{lt}
use Rattle.floats.specs.F32.{◌⊕◌, ◌⊖◌, ◌⊗◌, f32, half32, one32, sixteen32}
use Rattle.parameter_interpolator.specs.declared.ParameterInterpolator.{ParameterInterpolator}
use Rattle.parameter_interpolator.specs.Interpolator.{new_interpolator}
use Rattle.rooms.specs.declared.Room.{Room}
use Rattle.rooms.specs.declared.Room.TheVariants.{Frequency}
use Rattle.ranges.specs.Targets.{clipped}
use Rattle.ranges.specs.Ranges.{phase_in, frequency_in, parameter_frequency_in, unit_in, all_of}
use Rattle.block.specs.declared.Counts.{Counts}
use Rattle.block.specs.declared.refusal.Refusal.{Refusal}
use Rattle.block.specs.Calls.{Call, gave}
use Rattle.block.specs.Oscillator.{Oscillator, call_of}
use Rattle.super_square.specs.declared.State.{State}
use Rattle.super_square.specs.Sample.{sample_at}

-- 01, "State": phases at least 0 and below 1, frequencies 0 to 17/64, `next_sample` any bits
unfoldable pub state_in : State → Bool
state_in s =
    all_of
    (phase_in s.master_phase
    ∷ phase_in s.slave_phase
    ∷ frequency_in s.master_frequency
    ∷ frequency_in s.slave_frequency
    ∷ [])

-- 01, "Parameters": the frequency from MIN_FREQUENCY to 1, the shape from 0 to 1
unfoldable pub parameters_in : Float → Float → Bool
parameters_in frequency shape = all_of (parameter_frequency_in frequency ∷ unit_in shape ∷ [])

-- what a call is given beside the state
pub record Arguments : Type 0 where
  pub frequency : Float
  pub shape : Float
  pub buffer : List Float

-- the slave's factor, lines 40 to 44: 0.51 + 0.98 * shape below 0.5, else 1 + 16 * (shape - 0.5) * (shape - 0.5)
abbrev pub factor_of : Float → Float
factor_of shape =
    cond (lt shape half32)
    (f32 0x3f02_8f5c ⊕ f32 0x3f7a_e148 ⊗ shape)
    (one32 ⊕ sixteen32 ⊗ (shape ⊖ half32) ⊗ (shape ⊖ half32))

-- lines 39 to 56: the master's frequency moves to the parameter, the slave's to its product with the factor, each clipped at 0.25
abbrev pub interpolators : State → Float → Float → ℕ → List ParameterInterpolator
interpolators s frequency shape n =
    new_interpolator s.master_frequency (clipped frequency) n
    ∷ new_interpolator s.slave_frequency (clipped (frequency ⊗ factor_of shape)) n
    ∷ []

-- 01, "Rooms": each frequency above 0 and at most 17/64
abbrev pub rooms : List Room
rooms = Frequency ∷ Frequency ∷ []

-- the phase whose wraps are cycles is the master's, and the first step moves it
abbrev pub super_square : Oscillator State Arguments
super_square = record {
  buffer = λ a. a.buffer;
  checks = λ s a. 3 unless state_in s ∷ 4 unless parameters_in a.frequency a.shape ∷ [];
  moving = λ s a. interpolators s a.frequency a.shape (length a.buffer);
  rooms = λ a. rooms;
  sample = λ a. sample_at;
  phases = λ s. s.master_phase ∷ s.slave_phase ∷ [];
  phase = λ s. s.master_phase;
  phase_step = 0;
}

-- the call of these arguments
abbrev pub render_of : State → Float → Float → List Float → Call State
render_of s frequency shape xs = call_of super_square s (record { frequency = frequency; shape = shape; buffer = xs })

-- what a call returned, and left in the state and in the buffer, in 01's numbers
abbrev pub as_call : Result Counts Refusal → State → List Float → Call State
as_call = gave
