-- What the source makes of a parameter before a block starts, where more than one oscillator does it. Assumes nothing.
use Rattle.std.specs.Prelude.{cond, Float}
use Rattle.std.specs.Float.Ieee.{le}
use Rattle.floats.specs.F32.{◌⊖◌, ◌⊗◌, half32, one32, two32, max_frequency}
use Rattle.floats.specs.Helpers.{clamp_of}

-- a frequency is at most MAX_FREQUENCY: super_square_oscillator.rs, lines 46 to 52, variable_shape_oscillator.rs, lines 68 to 73,
-- variable_saw_oscillator.rs, lines 45 to 47
abbrev pub clipped : Float → Float
clipped frequency = cond (le max_frequency frequency) max_frequency frequency

-- a pulse width is 0.5 from frequency 0.25 up, and below it lies from 2f to 1 - 2f: variable_shape_oscillator.rs, lines 75 to 79, and
-- variable_saw_oscillator.rs, lines 49 to 53, of the frequency after its clip
abbrev pub clamped_width : Float → Float → Float
clamped_width frequency pw = cond (le max_frequency frequency) half32 (clamp_of pw (frequency ⊗ two32) (one32 ⊖ two32 ⊗ frequency))
