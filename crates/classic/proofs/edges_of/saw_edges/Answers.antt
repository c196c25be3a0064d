-- `classic::edges_of::saw_edges` meets its contract: each way of the test is the definition's. Assumes nothing.
use Rattle.std.proofs.Common.{refl}
use Rattle.classic.specs.Edges.{saw_edges}
use Rattle.classic.proofs.edges_of.saw_edges.Goals as goal

pub returns-then-e : goal.returns-then-e
unfolding saw_edges
returns-then-e c = rw c.if-e.true c.saw_wrap.ensures

pub returns-else-e : goal.returns-else-e
unfolding saw_edges
returns-else-e c = rw c.if-e.false refl
