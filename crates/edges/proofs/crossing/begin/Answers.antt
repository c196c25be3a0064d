-- `edges::crossing::begin` meets its contract: each way of the test is the definition's. Assumes nothing.
use Rattle.edges.specs.Private.{begun}
use Rattle.edges.proofs.crossing.begin.Goals as goal

pub returns-then-sync-master : goal.returns-then-sync-master
unfolding begun
returns-then-sync-master g c = rw (c.if-sync-master.true, c.reset_start.ensures)

pub returns-else-sync-master : goal.returns-else-sync-master
unfolding begun
returns-else-sync-master g c = rw (c.if-sync-master.false, c.plain_start.ensures)
