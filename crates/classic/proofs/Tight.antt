-- The contracts of `new`, `shape_of`, `init` and `render`, as the kit reads them, determine all: the state; the shape; answer and state; answer, state, counts and buffer. Assumes nothing.
use borrow.Fn.Kinds.{ended_of}
use Rattle.std.proofs.Common.{refl, ap}
use Rattle.floats.specs.Tightness.{Determines}
use Rattle.floats.proofs.Tightness.{coincide}
use Rattle.block.proofs.Contracts.{same_answer, same_outcome}
use Rattle.classic.specs.Start.{Start}
use Rattle.classic.proofs.new
use Rattle.classic.proofs.shapes.shape_of
use Rattle.classic.proofs.start.init
use Rattle.classic.proofs.render

pub new_tight : Determines (ended_of _ new.Kinds.ps new.Kinds.r) new.Reads.Learnt
new_tight κs a r q v w h k = (coincide h k, refl)

pub shape_of_tight : Determines (ended_of _ shape_of.Kinds.ps shape_of.Kinds.r) shape_of.Reads.Learnt
shape_of_tight κs a r q v w h k = (coincide h k, refl)

pub init_tight : Determines (ended_of _ init.Kinds.ps init.Kinds.r) init.Reads.Learnt
init_tight κs a r q v w h k =
    let e = coincide h k in
    let state = ap (λ (c : Start). c.state) e in
    (same_answer r q (ap (λ (c : Start). c.number) e) (ap (λ (c : Start). c.index) e), rw state)

pub render_tight : Determines (ended_of _ render.Kinds.ps render.Kinds.r) render.Reads.Learnt
render_tight κs a r q v w h k = let o = same_outcome r q _ _ _ _ (coincide h k) in (o.0, rw (o.1, o.2))
