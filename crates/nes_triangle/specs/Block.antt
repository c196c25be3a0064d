-- The NES triangle as an oscillator of `block`: nes_triangle_oscillator.rs, lines 34 to 141, with 01's checks before it. Assumes nothing.
use Rattle.block.specs.Checks.{◌unless◌}
use Rattle.std.specs.Prelude.{ℕ, ◌^◌, Bool, false, List, [], ◌∷◌, length, ℤ, pos, negsuc, nat_lt, Float, Result}
use Rattle.floats.specs.F32.{max_frequency}
use Rattle.floats.specs.Helpers.{min_of}
use Rattle.parameter_interpolator.specs.declared.ParameterInterpolator.{ParameterInterpolator}
use Rattle.parameter_interpolator.specs.Interpolator.{new_interpolator}
use Rattle.rooms.specs.declared.Room.{Room}
use Rattle.rooms.specs.declared.Room.TheVariants.{Frequency}
use Rattle.ranges.specs.Ranges.{phase_in, frequency_in, parameter_frequency_in, all_of}
use Rattle.block.specs.declared.Counts.{Counts}
use Rattle.block.specs.declared.refusal.Refusal.{Refusal}
use Rattle.block.specs.Calls.{Call, gave}
use Rattle.block.specs.Oscillator.{Oscillator, call_of}
use Rattle.nes_triangle.specs.declared.State.{State}
use Rattle.nes_triangle.specs.Depth.{bits_in, tested_bits}
use Rattle.nes_triangle.specs.Sample.{sample_at}

-- 01, "State": `step` 0 to 2^bits - 1
abbrev pub step_in : ℕ → ℤ → Bool
step_in bits (pos n) = nat_lt n (2 ^ tested_bits bits)
step_in bits (negsuc n) = false

-- the phase at least 0 and below 1, the frequency 0 to 17/64, `next_sample` any bits
unfoldable pub state_in : State → ℕ → Bool
state_in s bits =
    all_of
    (phase_in s.phase
    ∷ frequency_in s.frequency
    ∷ step_in bits s.step
    ∷ [])

-- 01, "Parameters": the frequency from MIN_FREQUENCY to 1, the bits from 1 to 16
unfoldable pub parameters_in : Float → ℕ → Bool
parameters_in frequency bits = all_of (parameter_frequency_in frequency ∷ bits_in bits ∷ [])

-- what a call is given beside the state
pub record Arguments : Type 0 where
  pub frequency : Float
  pub bits : ℕ
  pub buffer : List Float

-- lines 47 to 49: the frequency moves to the parameter, or to 0.25 where that is less
abbrev pub interpolators : State → Float → ℕ → List ParameterInterpolator
interpolators s frequency n = new_interpolator s.frequency (min_of frequency max_frequency) n ∷ []

-- 01, "Rooms for each interpolated step": the frequency above 0 and at most 17/64
abbrev pub rooms : List Room
rooms = Frequency ∷ []

-- its only phase is the one whose wraps are cycles, and the one step moves it
abbrev pub nes_triangle : Oscillator State Arguments
nes_triangle = record {
  buffer = λ a. a.buffer;
  checks = λ s a. 3 unless state_in s a.bits ∷ 4 unless parameters_in a.frequency a.bits ∷ [];
  moving = λ s a. interpolators s a.frequency (length a.buffer);
  rooms = λ a. rooms;
  sample = λ a. sample_at a.bits;
  phases = λ s. s.phase ∷ [];
  phase = λ s. s.phase;
  phase_step = 0;
}

-- the call of these arguments
abbrev pub render_of : State → Float → ℕ → List Float → Call State
render_of s frequency bits xs = call_of nes_triangle s (record { frequency = frequency; bits = bits; buffer = xs })

-- what a call returned, and left in the state and in the buffer, in 01's numbers
abbrev pub as_call : Result Counts Refusal → State → List Float → Call State
as_call = gave
