-- What the crate's own functions ask of each other. No public contract cites it, and a reader need not believe it. Assumes nothing.
use Rattle.std.specs.Prelude.{Option, Some, None, Float}
use Rattle.floats.specs.F32.{zero32}
use Rattle.classic.specs.declared.OscillatorShape.{OscillatorShape}
use Rattle.classic.specs.declared.OscillatorShape.TheVariants.{Saw}
use Rattle.classic.specs.declared.Parameters.{Parameters}

-- the parameters of a call by a shape's number: where there is no such shape a frequency of 0, which is refused in the same place
abbrev pub parameters_of : Option OscillatorShape → Float → Float → Parameters
parameters_of (Some shape) frequency pw = record { frequency = frequency; pw = pw; shape = shape }
parameters_of None frequency pw = record { frequency = zero32; pw = pw; shape = Saw }
