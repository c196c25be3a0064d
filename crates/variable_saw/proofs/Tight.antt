-- The contracts of `new`, `init` and `render`, as the kit reads them, determine all: the state; answer, state, counts and buffer. Assumes nothing.
use borrow.Fn.Kinds.{ended_of}
use mathlib.Core.Path.{refl}
use Rattle.floats.specs.Tightness.{Determines}
use Rattle.floats.proofs.Tightness.{coincide}
use Rattle.block.proofs.Contracts.{same_outcome}
use Rattle.variable_saw.proofs.new
use Rattle.variable_saw.proofs.init
use Rattle.variable_saw.proofs.render

pub new_tight : Determines (ended_of _ new.Kinds.ps new.Kinds.r) new.Reads.Learnt
new_tight κs a r q v w h k = (coincide h k, refl)

pub init_tight : Determines (ended_of _ init.Kinds.ps init.Kinds.r) init.Reads.Learnt
init_tight κs a r q v w h k = (coincide h k, refl)

pub render_tight : Determines (ended_of _ render.Kinds.ps render.Kinds.r) render.Reads.Learnt
render_tight κs a r q v w h k = let o = same_outcome r q _ _ _ _ (coincide h k) in (o.0, rw (o.1, o.2))
