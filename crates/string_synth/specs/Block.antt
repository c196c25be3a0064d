-- The string synth as an oscillator of `block`: string_synth_oscillator.rs, lines 53 to 151, with 01's checks before it. Assumes nothing.
use Rattle.block.specs.Checks.{◌unless◌}
use Rattle.std.specs.Prelude.{ℕ, Bool, not, ◌&&◌, List, [], ◌∷◌, length, ℤ, pos, int_le, nat_eq, Float, Result}
use Rattle.std.specs.List.{list_all}
use Rattle.std.specs.Float.Ieee.{lt, le}
use Rattle.floats.specs.F32.{zero32, half32, four32, eight32, top_string_step}
use Rattle.parameter_interpolator.specs.declared.ParameterInterpolator.{ParameterInterpolator}
use Rattle.parameter_interpolator.specs.Interpolator.{new_interpolator}
use Rattle.rooms.specs.declared.Room.{Room}
use Rattle.rooms.specs.declared.Room.TheVariants.{StringFrequency, ModulationOrGain}
use Rattle.ranges.specs.Ranges.{within, parameter_frequency_in, unit_in, modulation_or_gain_in, all_of}
use Rattle.block.specs.declared.Counts.{Counts}
use Rattle.block.specs.declared.refusal.Refusal.{Refusal}
use Rattle.block.specs.Calls.{Call, gave}
use Rattle.block.specs.Oscillator.{Oscillator, call_of}
use Rattle.string_synth.specs.declared.State.{State}
use Rattle.string_synth.specs.declared.sample.Saws.{Saws}
use Rattle.string_synth.specs.Sample.{sample_at}
use Rattle.string_synth.specs.Targets.{targets_of}

-- 01, "State": the phase at least 0 and below 8
abbrev pub string_phase_in : Float → Bool
string_phase_in x = le zero32 x && lt x eight32

-- `segment` 0 to 7
abbrev pub segment_in : ℤ → Bool
segment_in z = int_le (pos 0) z && int_le z (pos 7)

-- the four gains -16 to 16
unfoldable pub gains_in : Float → Float → Float → Float → Bool
gains_in of8 of4 of2 of1 = all_of (modulation_or_gain_in of8 ∷ modulation_or_gain_in of4 ∷ modulation_or_gain_in of2 ∷ modulation_or_gain_in of1 ∷ [])

-- the frequency 0 to 17/32, and `next_sample` any bits
unfoldable pub state_in : State → Bool
state_in s =
    all_of
    (string_phase_in s.phase
    ∷ segment_in s.segment
    ∷ within zero32 top_string_step s.frequency
    ∷ gains_in s.saw_8_gain s.saw_4_gain s.saw_2_gain s.saw_1_gain
    ∷ [])

-- each entry from 0 to 1
abbrev pub registration_in : List Float → Bool
registration_in = list_all unit_in

-- 01, "Parameters": the frequency from MIN_FREQUENCY to 1, the registration's entries from 0 to 1, the gain from 0 to 4
unfoldable pub parameters_in : Float → List Float → Float → Bool
parameters_in frequency registration gain = all_of (parameter_frequency_in frequency ∷ registration_in registration ∷ within zero32 four32 gain ∷ [])

-- what a call is given beside the state
pub record Arguments : Type 0 where
  pub frequency : Float
  pub registration : List Float
  pub gain : Float
  pub buffer : List Float

-- lines 80 to 100: the frequency and the four gains move to their targets
abbrev pub interpolators : State → Saws → ℕ → List ParameterInterpolator
interpolators s to n =
    new_interpolator s.frequency to.frequency n
    ∷ new_interpolator s.saw_8_gain to.saw_8_gain n
    ∷ new_interpolator s.saw_4_gain to.saw_4_gain n
    ∷ new_interpolator s.saw_2_gain to.saw_2_gain n
    ∷ new_interpolator s.saw_1_gain to.saw_1_gain n
    ∷ []

-- 01, "Rooms for each interpolated step": the frequency above 0 and at most 17/32, the four gains -16 to 16
abbrev pub rooms : List Room
rooms = StringFrequency ∷ ModulationOrGain ∷ ModulationOrGain ∷ ModulationOrGain ∷ ModulationOrGain ∷ []

-- Where the source returns without a word, line 71, the answer is 5. Its only phase is the one whose wraps are cycles, and the first step moves it.
abbrev pub string_synth : Oscillator State Arguments
string_synth = record {
  buffer = λ a. a.buffer;
  checks = λ s a.
      2 unless nat_eq (length a.registration) 7
      ∷ 3 unless state_in s
      ∷ 4 unless parameters_in a.frequency a.registration a.gain
      ∷ 5 unless not (lt half32 a.frequency)
      ∷ [];
  moving = λ s a. interpolators s (targets_of a.frequency a.registration a.gain) (length a.buffer);
  rooms = λ a. rooms;
  sample = λ a. sample_at;
  phases = λ s. s.phase ∷ [];
  phase = λ s. s.phase;
  phase_step = 0;
}

-- the call of these arguments
abbrev pub render_of : State → Float → List Float → Float → List Float → Call State
render_of s frequency registration gain xs = call_of string_synth s (record { frequency = frequency; registration = registration; gain = gain; buffer = xs })

-- what a call returned, and left in the state and in the buffer, in 01's numbers
abbrev pub as_call : Result Counts Refusal → State → List Float → Call State
as_call = gave
