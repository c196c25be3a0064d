-- Every public function's contract, as the kit reads it, determines its outcome. Assumes nothing.
use borrow.Fn.Kinds.{ended_of}
use Rattle.std.proofs.Common.{refl}
use Rattle.floats.specs.Tightness.{Determines}
use Rattle.floats.proofs.Tightness.{coincide}
use Rattle.parameter_interpolator.proofs.ParameterInterpolator.new
use Rattle.parameter_interpolator.proofs.ParameterInterpolator.next

pub new_tight : Determines (ended_of _ new.Kinds.ps new.Kinds.r) new.Reads.Learnt
new_tight κs a r q v w h k = (coincide h k, refl)

pub next_tight : Determines (ended_of _ next.Kinds.ps next.Kinds.r) next.Reads.Learnt
next_tight κs a r q v w h k = (coincide h k, refl)
