-- `edges::crossing::pass` meets its contract: its parts make the definition. Assumes nothing.
use Rattle.edges.proofs.Passes.{passed_is, start_crossable}
use Rattle.edges.proofs.crossing.pass.Goals as goal

pub cross_if-e-requires : goal.cross_if-e-requires
cross_if-e-requires g c = start_crossable _ _ (λ e. e) _ _ _ _ c.begin-start.ensures c.requires

pub returns : goal.returns
returns g c = passed_is _ _ _ _ _ _ _ c.begin-start.ensures c.cross_if-e.ensures c.leave.ensures
