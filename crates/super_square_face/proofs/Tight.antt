-- Every public function's contract, as the kit reads it, determines all: answer, words, result and samples. Assumes nothing.
use borrow.Fn.Kinds.{ended_of}
use mathlib.Core.Path.{refl}
use Rattle.floats.specs.Tightness.{Determines}
use Rattle.floats.proofs.Tightness.{coincide}
use Rattle.words.proofs.Faces.{same_face}
use Rattle.super_square_face.proofs.init
use Rattle.super_square_face.proofs.render

pub init_tight : Determines (ended_of _ init.Kinds.ps init.Kinds.r) init.Reads.Learnt
init_tight κs a r q v w h k = (refl, rw (coincide h k))

pub render_tight : Determines (ended_of _ render.Kinds.ps render.Kinds.r) render.Reads.Learnt
render_tight κs a r q v w h k = let o = same_face (coincide h k) in (o.0, rw (o.1, o.2, o.3))
