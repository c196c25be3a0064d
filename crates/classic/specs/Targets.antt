-- What the parameters become before a block starts: oscillator.rs, lines 77 and 81. Assumes nothing.
use Rattle.std.specs.Prelude.{Float}
use Rattle.floats.specs.F32.{◌⊖◌, ◌⊗◌, one32, two32, min_frequency, max_frequency}
use Rattle.floats.specs.Helpers.{clamp_of, abs_of}

-- line 77
abbrev pub frequency_target : Float → Float
frequency_target frequency = clamp_of frequency min_frequency max_frequency

-- line 81, of the clamped frequency
abbrev pub width_target : Float → Float → Float
width_target frequency pw = clamp_of pw (abs_of frequency ⊗ two32) (one32 ⊖ two32 ⊗ abs_of frequency)
