-- The classic oscillator's default and initial states: oscillator.rs. Assumes nothing.
use Rattle.std.specs.Prelude.{true, false, Float}
use Rattle.floats.specs.F32.{◌⊗◌, ◌⊘◌, f32, zero32, half32, one32}
use Rattle.classic.specs.declared.State.{State}

-- the source's `Default`
abbrev pub new_state : State
new_state = record {
  phase = zero32;
  next_sample = zero32;
  lp_state = zero32;
  hp_state = zero32;
  high = false;
  frequency = zero32;
  pw = zero32;
  impulse_train_lp_coeff = zero32;
  impulse_train_gain = zero32;
}

-- 0.25, written out in line 61
abbrev pub quarter32 : Float
quarter32 = f32 0x3e80_0000

-- 48000.0, the source's REF_SAMPLE_RATE: lib.rs, line 25
abbrev pub ref_sample_rate : Float
ref_sample_rate = f32 0x473b_8000

-- line 61
abbrev pub lp_coeff : Float → Float
lp_coeff sample_rate = quarter32 ⊗ ref_sample_rate ⊘ sample_rate

-- lines 52 to 62; the frequency is 0.001
abbrev pub initial_state : Float → State
initial_state sample_rate = record {
  phase = half32;
  next_sample = zero32;
  lp_state = one32;
  hp_state = zero32;
  high = true;
  frequency = f32 0x3a83_126f;
  pw = half32;
  impulse_train_lp_coeff = lp_coeff sample_rate;
  impulse_train_gain = one32 ⊘ lp_coeff sample_rate;
}
