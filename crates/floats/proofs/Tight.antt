-- Every public function's contract, as the kit reads it, determines its outcome. Assumes nothing.
use mathlib.Core.Path.{refl}
use borrow.Fn.Kinds.{ended_of}
use Rattle.floats.specs.Tightness.{Determines}
use Rattle.floats.proofs.Tightness.{coincide}
use Rattle.floats.proofs.min
use Rattle.floats.proofs.max
use Rattle.floats.proofs.clamp
use Rattle.floats.proofs.abs
use Rattle.floats.proofs.from_bits
use Rattle.floats.proofs.to_bits

pub min_tight : Determines (ended_of _ min.Kinds.ps min.Kinds.r) min.Reads.Learnt
min_tight κs a r q v w h k = (coincide h k, refl)

pub max_tight : Determines (ended_of _ max.Kinds.ps max.Kinds.r) max.Reads.Learnt
max_tight κs a r q v w h k = (coincide h k, refl)

pub clamp_tight : Determines (ended_of _ clamp.Kinds.ps clamp.Kinds.r) clamp.Reads.Learnt
clamp_tight κs a r q v w h k = (coincide h k, refl)

pub abs_tight : Determines (ended_of _ abs.Kinds.ps abs.Kinds.r) abs.Reads.Learnt
abs_tight κs a r q v w h k = (coincide h k, refl)

pub from_bits_tight : Determines (ended_of _ from_bits.Kinds.ps from_bits.Kinds.r) from_bits.Reads.Learnt
from_bits_tight κs a r q v w h k = (coincide h k, refl)

pub to_bits_tight : Determines (ended_of _ to_bits.Kinds.ps to_bits.Kinds.r) to_bits.Reads.Learnt
to_bits_tight κs a r q v w h k = (coincide h k, refl)
