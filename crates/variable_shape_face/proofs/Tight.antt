-- Every public function's contract, as the kit reads it, determines all: answer, words, result and samples. Assumes nothing.
use borrow.Fn.Kinds.{ended_of}
use mathlib.Core.Path.{refl, ap}
use Rattle.floats.specs.Tightness.{Determines}
use Rattle.floats.proofs.Tightness.{coincide}
use Rattle.words.proofs.Faces.{same_face}
use Rattle.variable_shape_face.specs.Words.{SetFace}
use Rattle.variable_shape_face.proofs.init
use Rattle.variable_shape_face.proofs.render
use Rattle.variable_shape_face.proofs.set_master_phase

pub init_tight : Determines (ended_of _ init.Kinds.ps init.Kinds.r) init.Reads.Learnt
init_tight κs a r q v w h k = (refl, rw (coincide h k))

pub render_tight : Determines (ended_of _ render.Kinds.ps render.Kinds.r) render.Reads.Learnt
render_tight κs a r q v w h k = let o = same_face (coincide h k) in (o.0, rw (o.1, o.2, o.3))

pub set_master_phase_tight : Determines (ended_of _ set_master_phase.Kinds.ps set_master_phase.Kinds.r) set_master_phase.Reads.Learnt
set_master_phase_tight κs a r q v w h k = let e = coincide h k in (ap (λ (f : SetFace). f.number) e, ap (λ (f : SetFace). (f.words, (tt, tt))) e)
