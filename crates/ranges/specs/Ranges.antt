-- The ranges of 01, "Ranges", that more than one oscillator has. A NaN lies outside every range, and negative zero is zero. Assumes nothing.
use Rattle.std.specs.Prelude.{Bool, true, ◌&&◌, List, [], ◌∷◌, Float}
use Rattle.std.specs.Float.Ieee.{lt, le, neg}
use Rattle.floats.specs.F32.{zero32, one32, two32, sixteen32, min_frequency, top_step}

-- from low to high, both included
abbrev pub within : Float → Float → Float → Bool
within low high x = le low x && le x high

-- a phase: at least 0 and below 1
abbrev pub phase_in : Float → Bool
phase_in x = le zero32 x && lt x one32

-- a state's frequency: 0 to 17/64
abbrev pub frequency_in : Float → Bool
frequency_in x = within zero32 top_step x

-- a frequency parameter: MIN_FREQUENCY to 1
abbrev pub parameter_frequency_in : Float → Bool
parameter_frequency_in x = within min_frequency one32 x

-- a width, a shape, a waveshape parameter, a registration entry: 0 to 1
abbrev pub unit_in : Float → Bool
unit_in x = within zero32 one32 x

-- a state's waveshape: -1 to 2
abbrev pub waveshape_in : Float → Bool
waveshape_in x = within (neg one32) two32 x

-- a state's phase modulation or saw gain: -16 to 16
abbrev pub modulation_or_gain_in : Float → Bool
modulation_or_gain_in x = within (neg sixteen32) sixteen32 x

-- a test for each value that has a range: all of them pass
unfoldable pub all_of : List Bool → Bool
all_of [] = true
all_of (b ∷ bs) = b && all_of bs
