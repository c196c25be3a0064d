-- Every public function's contract, as the kit reads it, determines its outcome. Assumes nothing.
use borrow.Fn.Kinds.{ended_of}
use Rattle.std.proofs.Common.{refl}
use Rattle.floats.specs.Tightness.{Determines}
use Rattle.floats.proofs.Tightness.{coincide}
use Rattle.edges.proofs.start
use Rattle.edges.proofs.risen
use Rattle.edges.proofs.fallen
use Rattle.edges.proofs.wrapped
use Rattle.edges.proofs.counts
use Rattle.edges.proofs.at_reset
use Rattle.edges.proofs.cut
use Rattle.edges.proofs.crossing.is_uncrossed
use Rattle.edges.proofs.crossing.pass
use Rattle.edges.proofs.triangle.triangle
use Rattle.edges.proofs.triangle.triangle_at
use Rattle.edges.proofs.triangle.triangle_step
use Rattle.edges.proofs.triangle.rise_time

pub start_tight : Determines (ended_of _ start.Kinds.ps start.Kinds.r) start.Reads.Learnt
start_tight κs a r q v w h k = (coincide h k, refl)

pub risen_tight : Determines (ended_of _ risen.Kinds.ps risen.Kinds.r) risen.Reads.Learnt
risen_tight κs a r q v w h k = (coincide h k, refl)

pub fallen_tight : Determines (ended_of _ fallen.Kinds.ps fallen.Kinds.r) fallen.Reads.Learnt
fallen_tight κs a r q v w h k = (coincide h k, refl)

pub wrapped_tight : Determines (ended_of _ wrapped.Kinds.ps wrapped.Kinds.r) wrapped.Reads.Learnt
wrapped_tight κs a r q v w h k = (coincide h k, refl)

pub counts_tight : Determines (ended_of _ counts.Kinds.ps counts.Kinds.r) counts.Reads.Learnt
counts_tight κs a r q v w h k = (coincide h k, refl)

pub at_reset_tight : Determines (ended_of _ at_reset.Kinds.ps at_reset.Kinds.r) at_reset.Reads.Learnt
at_reset_tight κs a r q v w h k = (coincide h k, refl)

pub cut_tight : Determines (ended_of _ cut.Kinds.ps cut.Kinds.r) cut.Reads.Learnt
cut_tight κs a r q v w h k = (coincide h k, refl)

pub triangle_tight : Determines (ended_of _ triangle.Kinds.ps triangle.Kinds.r) triangle.Reads.Learnt
triangle_tight κs a r q v w h k = (coincide h k, refl)

pub triangle_at_tight : Determines (ended_of _ triangle_at.Kinds.ps triangle_at.Kinds.r) triangle_at.Reads.Learnt
triangle_at_tight κs a r q v w h k = (coincide h k, refl)

pub triangle_step_tight : Determines (ended_of _ triangle_step.Kinds.ps triangle_step.Kinds.r) triangle_step.Reads.Learnt
triangle_step_tight κs a r q v w h k = (coincide h k, refl)

pub rise_time_tight : Determines (ended_of _ rise_time.Kinds.ps rise_time.Kinds.r) rise_time.Reads.Learnt
rise_time_tight κs a r q v w h k = (coincide h k, refl)

pub is_uncrossed_tight : Determines (ended_of _ is_uncrossed.Kinds.ps is_uncrossed.Kinds.r) is_uncrossed.Reads.Learnt
is_uncrossed_tight κs a r q v w h k = (coincide h k, refl)

pub pass_tight : (W : _) (l : _) (k : _) (c : _) (d : _) (e : _) (f : _) → Determines (ended_of _ (pass.Kinds.ps W l k) (pass.Kinds.r W l k)) (pass.Reads.Learnt W l k c d e f)
pass_tight W l k c d e f κs a r q v w h i = (coincide h i, refl)
