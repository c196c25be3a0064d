-- The figures of 01 that are the variable saw's: the samples of P9, and the state of the Drift figure. Assumes nothing.
use Rattle.std.specs.Prelude.{◌≡◌, false, Float}
use Rattle.floats.specs.F32.{◌⊕◌, f32, zero32, half32}
use Rattle.variable_saw.specs.declared.State.{State}
use Rattle.block.specs.declared.sample.Sample.{Sample}
use Rattle.edges.specs.Triangle.{rise_time}
use Rattle.variable_saw.specs.Sample.{sample_of}

-- a low saw at `phase`, with a width that stays the same and the waveshape 0
abbrev pub steady_saw : Float → Float → Float → State
steady_saw phase step width = record { phase = phase; next_sample = zero32; previous_pw = width; high = false; frequency = step; pw = width; waveshape = zero32 }

-- one sample more of it
abbrev pub steady_sample : Float → Float → State → Sample State
steady_sample step width s = sample_of s step width zero32

-- the t of a rise in it
abbrev pub steady_rise_time : Float → Float → State → Float
steady_rise_time step width s = rise_time (s.phase ⊕ step) width s.previous_pw step

-- Drift: a state with the frequency 12290525 / 2 ^ 26, the width 0.5 and the waveshape 0
pub record Drifting (s : State) : Type 0 where
  pub frequency : s.frequency ≡ f32 0x3e3b_89dd
  pub pw : s.pw ≡ half32
  pub waveshape : s.waveshape ≡ zero32
