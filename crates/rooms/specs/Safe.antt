-- A test of a parameter's value and target, made once before a block of up to 4,096 samples: where it passes, no step of the block leaves its room (proofs/Guard), and the walk may be left
-- out. No definition of a call cites it, and a reader need not believe it. Assumes nothing.
use Rattle.std.specs.Prelude.{Bool, true, ◌&&◌, Float}
use Rattle.std.specs.Float.Ieee.{lt, le}
use Rattle.floats.specs.F32.{f32, ◌⊗◌, one32}
use Rattle.rooms.specs.declared.Room.{Room}
use Rattle.rooms.specs.declared.Room.TheVariants.{Unused, Frequency, StringFrequency, PulseWidth, Waveshape, ModulationOrGain}

-- 2048: a value of at most so many targets, as it falls, loses less than its target by rounding
abbrev pub ratio : Float
ratio = f32 0x4500_0000

-- 1 - 2^-12: a width that rises to no more than this stays below 1
abbrev pub widest : Float
widest = f32 0x3f7f_f000

-- what the ranges of states and targets do not tell already. A waveshape, phase modulation and a gain need no test: their rooms are wider than their targets by more than rounding
abbrev pub safe_in : Room → Float → Float → Bool
safe_in Unused value target = true
safe_in Frequency value target = le value (target ⊗ ratio)
safe_in StringFrequency value target = le value (target ⊗ ratio)
safe_in PulseWidth value target = lt value one32 && le value (target ⊗ ratio) && le target widest
safe_in Waveshape value target = true
safe_in ModulationOrGain value target = true
