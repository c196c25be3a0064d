-- `edges::crossing::leave` meets its contract: each way of the match is the definition's. Assumes nothing.
use Rattle.edges.specs.Private.{left_at}
use Rattle.edges.proofs.crossing.leave.Goals as goal

pub returns-in-Some : goal.returns-in-Some
unfolding left_at
returns-in-Some c = rw (c.in-Some.is, c.one_if.ensures)

pub returns-in-None : goal.returns-in-None
unfolding left_at
returns-in-None c = rw (c.in-None.is, c.free_cycles.ensures)
