-- The string synth's default and initial states: string_synth_oscillator.rs. Assumes nothing.
use Rattle.std.specs.Prelude.{pos, Float}
use Rattle.floats.specs.F32.{f32, zero32}
use Rattle.string_synth.specs.declared.State.{State}

-- a state that rests at 0, with a frequency
abbrev pub at_rest : Float → State
at_rest frequency = record {
  phase = zero32;
  next_sample = zero32;
  segment = pos 0;
  frequency = frequency;
  saw_8_gain = zero32;
  saw_4_gain = zero32;
  saw_2_gain = zero32;
  saw_1_gain = zero32;
}

-- the source's `Default`
abbrev pub new_state : State
new_state = at_rest zero32

-- lines 40 to 50; the frequency is 0.001
abbrev pub init_state : State
init_state = at_rest (f32 0x3a83_126f)
