-- The NES triangle's default and initial states: nes_triangle_oscillator.rs. Assumes nothing.
use Rattle.std.specs.Prelude.{true, false, pos}
use Rattle.floats.specs.F32.{f32, zero32}
use Rattle.nes_triangle.specs.declared.State.{State}

-- the source's `Default`
abbrev pub new_state : State
new_state = record { phase = zero32; next_sample = zero32; step = pos 0; ascending = false; frequency = zero32 }

-- lines 25 to 31; the frequency is 0.001
abbrev pub init_state : State
init_state = record { phase = zero32; next_sample = zero32; step = pos 0; ascending = true; frequency = f32 0x3a83_126f }
