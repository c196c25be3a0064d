-- Every public function's contract, as the kit reads it, determines its outcome. Assumes nothing.
use borrow.Fn.Kinds.{ended_of}
use mathlib.Core.Path.{refl}
use Rattle.floats.specs.Tightness.{Determines}
use Rattle.floats.proofs.Tightness.{coincide}
use Rattle.polyblep.proofs.this_blep_sample
use Rattle.polyblep.proofs.next_blep_sample
use Rattle.polyblep.proofs.next_integrated_blep_sample
use Rattle.polyblep.proofs.this_integrated_blep_sample

pub this_blep_sample_tight : Determines (ended_of _ this_blep_sample.Kinds.ps this_blep_sample.Kinds.r) this_blep_sample.Reads.Learnt
this_blep_sample_tight κs a r q v w h k = (coincide h k, refl)

pub next_blep_sample_tight : Determines (ended_of _ next_blep_sample.Kinds.ps next_blep_sample.Kinds.r) next_blep_sample.Reads.Learnt
next_blep_sample_tight κs a r q v w h k = (coincide h k, refl)

pub next_integrated_blep_sample_tight : Determines (ended_of _ next_integrated_blep_sample.Kinds.ps next_integrated_blep_sample.Kinds.r) next_integrated_blep_sample.Reads.Learnt
next_integrated_blep_sample_tight κs a r q v w h k = (coincide h k, refl)

pub this_integrated_blep_sample_tight : Determines (ended_of _ this_integrated_blep_sample.Kinds.ps this_integrated_blep_sample.Kinds.r) this_integrated_blep_sample.Reads.Learnt
this_integrated_blep_sample_tight κs a r q v w h k = (coincide h k, refl)
