-- The variable shape's default and initial states: variable_shape_oscillator.rs. Assumes nothing.
use Rattle.std.specs.Prelude.{false}
use Rattle.floats.specs.F32.{f32, zero32, half32}
use Rattle.variable_shape.specs.declared.State.{State}

-- the source's `Default`
abbrev pub new_state : State
new_state = record {
  master_phase = zero32;
  slave_phase = zero32;
  next_sample = zero32;
  previous_pw = zero32;
  high = false;
  master_frequency = zero32;
  slave_frequency = zero32;
  pw = zero32;
  waveshape = zero32;
  phase_modulation = zero32;
}

-- lines 37 to 49; the slave's frequency is 0.01
abbrev pub init_state : State
init_state = record {
  master_phase = zero32;
  slave_phase = zero32;
  next_sample = zero32;
  previous_pw = half32;
  high = false;
  master_frequency = zero32;
  slave_frequency = f32 0x3c23_d70a;
  pw = half32;
  waveshape = zero32;
  phase_modulation = zero32;
}
