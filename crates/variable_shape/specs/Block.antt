-- The variable shape as an oscillator of `block`: variable_shape_oscillator.rs, lines 57 to 211, with 01's checks before it. Assumes nothing.
use Rattle.block.specs.Checks.{◌unless◌}
use Rattle.std.specs.Prelude.{Bool, cond, List, [], ◌∷◌, ℕ, length, Float, Result}
use Rattle.std.specs.Float.Ieee.{neg}
use Rattle.floats.specs.F32.{eight32}
use Rattle.parameter_interpolator.specs.declared.ParameterInterpolator.{ParameterInterpolator}
use Rattle.parameter_interpolator.specs.Interpolator.{new_interpolator}
use Rattle.rooms.specs.declared.Room.{Room}
use Rattle.rooms.specs.declared.Room.TheVariants.{Frequency, PulseWidth, Waveshape, ModulationOrGain}
use Rattle.ranges.specs.Targets.{clipped, clamped_width}
use Rattle.ranges.specs.Ranges.{within, phase_in, frequency_in, parameter_frequency_in, unit_in, waveshape_in, modulation_or_gain_in, all_of}
use Rattle.block.specs.declared.Counts.{Counts}
use Rattle.block.specs.declared.refusal.Refusal.{Refusal}
use Rattle.block.specs.Calls.{Call, gave}
use Rattle.block.specs.Oscillator.{Oscillator, call_of}
use Rattle.variable_shape.specs.declared.State.{State}
use Rattle.variable_shape.specs.Sample.{sample_at}

-- 01, "State": phases at least 0 and below 1, frequencies 0 to 17/64, widths 0 to 1, waveshape -1 to 2, phase modulation -16 to 16, `next_sample` any bits
unfoldable pub state_in : State → Bool
state_in s =
    all_of
    (phase_in s.master_phase
    ∷ phase_in s.slave_phase
    ∷ unit_in s.previous_pw
    ∷ frequency_in s.master_frequency
    ∷ frequency_in s.slave_frequency
    ∷ unit_in s.pw
    ∷ waveshape_in s.waveshape
    ∷ modulation_or_gain_in s.phase_modulation
    ∷ [])

-- 01, "Parameters": frequencies from MIN_FREQUENCY to 1, width and waveshape from 0 to 1, phase modulation from -8 to 8
unfoldable pub parameters_in : Float → Float → Float → Float → Float → Bool
parameters_in masterFrequency frequency pw waveshape phaseModulation =
    all_of
    (parameter_frequency_in masterFrequency
    ∷ parameter_frequency_in frequency
    ∷ unit_in pw
    ∷ unit_in waveshape
    ∷ within (neg eight32) eight32 phaseModulation
    ∷ [])

-- what a call is given beside the state and `sync`
pub record Arguments : Type 0 where
  pub master_frequency : Float
  pub frequency : Float
  pub pw : Float
  pub waveshape : Float
  pub phase_modulation : Float
  pub phase_output : Bool
  pub buffer : List Float

-- Lines 68 to 91: each parameter moves to its target, the frequencies clipped, the width clamped by the clipped frequency. These are those that the source
-- steps: phase modulation's only where the phase is put out (line 204).
abbrev pub interpolators : State → Float → Float → Float → Float → Float → Bool → ℕ → List ParameterInterpolator
interpolators s masterFrequency frequency pw waveshape phaseModulation phaseOutput n =
    new_interpolator s.master_frequency (clipped masterFrequency) n
    ∷ new_interpolator s.slave_frequency (clipped frequency) n
    ∷ new_interpolator s.pw (clamped_width (clipped frequency) pw) n
    ∷ new_interpolator s.waveshape waveshape n
    ∷ cond phaseOutput (new_interpolator s.phase_modulation phaseModulation n ∷ []) []

-- and their rooms
abbrev pub rooms : Bool → List Room
rooms phaseOutput = Frequency ∷ Frequency ∷ PulseWidth ∷ Waveshape ∷ cond phaseOutput (ModulationOrGain ∷ []) []

-- demand 3: "its phase is the one whose wraps are cycles", the master's with sync and the slave's without
abbrev pub counted_phase : Bool → State → Float
counted_phase sync s = cond sync s.master_phase s.slave_phase

-- The first or the second step moves that phase. In a chain "sync never switched": it belongs to the oscillator, and is no argument of a call.
abbrev pub variable_shape : Bool → Oscillator State Arguments
variable_shape sync = record {
  buffer = λ a. a.buffer;
  checks = λ s a. 3 unless state_in s ∷ 4 unless parameters_in a.master_frequency a.frequency a.pw a.waveshape a.phase_modulation ∷ [];
  moving = λ s a. interpolators s a.master_frequency a.frequency a.pw a.waveshape a.phase_modulation a.phase_output (length a.buffer);
  rooms = λ a. rooms a.phase_output;
  sample = λ a. sample_at sync a.phase_output;
  phases = λ s. s.master_phase ∷ s.slave_phase ∷ [];
  phase = counted_phase sync;
  phase_step = cond sync 0 1;
}

-- the call of these arguments
abbrev pub render_of : State → Float → Float → Float → Float → Float → Bool → Bool → List Float → Call State
render_of s masterFrequency frequency pw waveshape phaseModulation sync phaseOutput xs =
    call_of (variable_shape sync) s
    (record { master_frequency = masterFrequency; frequency = frequency; pw = pw; waveshape = waveshape; phase_modulation = phaseModulation; phase_output = phaseOutput; buffer = xs })

-- what a call returned, and left in the state and in the buffer, in 01's numbers
abbrev pub as_call : Result Counts Refusal → State → List Float → Call State
as_call = gave
