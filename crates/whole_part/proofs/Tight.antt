-- Every public function's contract, as the kit reads it, determines its outcome. Assumes nothing.
use borrow.Fn.Kinds.{ended_of}
use mathlib.Core.Path.{refl}
use Rattle.floats.specs.Tightness.{Determines}
use Rattle.floats.proofs.Tightness.{coincide}
use Rattle.whole_part.proofs.whole_part

pub whole_part_tight : Determines (ended_of _ whole_part.Kinds.ps whole_part.Kinds.r) whole_part.Reads.Learnt
whole_part_tight κs a r q v w h k = (coincide h k, refl)
