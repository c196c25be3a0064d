-- The rooms of 01, "Rooms for each interpolated step", by kind of parameter. Assumes nothing.
use Rattle.std.specs.Prelude.{Bool, true, ◌&&◌, Float}
use Rattle.std.specs.Float.Ieee.{lt, le}
use Rattle.floats.specs.F32.{zero32, one32, top_step, top_string_step}
use Rattle.rooms.specs.declared.Room.{Room}
use Rattle.rooms.specs.declared.Room.TheVariants.{Unused, Frequency, StringFrequency, PulseWidth, Waveshape, ModulationOrGain}
use Rattle.ranges.specs.Ranges.{waveshape_in, modulation_or_gain_in}

-- an unused place of the walk, which always has five, takes any step; a frequency lies above 0 and is at most 17/64, a string's at most 17/32; a pulse width lies strictly between 0 and 1;
-- the others have the state's range: a waveshape -1 to 2, phase modulation and a saw gain -16 to 16
abbrev pub in_room : Room → Float → Bool
in_room Unused x = true
in_room Frequency x = lt zero32 x && le x top_step
in_room StringFrequency x = lt zero32 x && le x top_string_step
in_room PulseWidth x = lt zero32 x && lt x one32
in_room Waveshape x = waveshape_in x
in_room ModulationOrGain x = modulation_or_gain_in x
