-- The super square's default and initial states: super_square_oscillator.rs. Assumes nothing.
use Rattle.std.specs.Prelude.{false}
use Rattle.floats.specs.F32.{f32, zero32}
use Rattle.super_square.specs.declared.State.{State}

-- the source's `Default`
abbrev pub new_state : State
new_state = record { master_phase = zero32; slave_phase = zero32; next_sample = zero32; high = false; master_frequency = zero32; slave_frequency = zero32 }

-- lines 27 to 35; the slave's frequency is 0.01
abbrev pub init_state : State
init_state = record { master_phase = zero32; slave_phase = zero32; next_sample = zero32; high = false; master_frequency = zero32; slave_frequency = f32 0x3c23_d70a }
