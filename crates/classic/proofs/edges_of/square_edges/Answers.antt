-- `classic::edges_of::square_edges` meets its contract: the width, and then the end of the cycle. Assumes nothing.
use Rattle.std.proofs.Common.{refl}
use Rattle.classic.specs.Edges.{square_edges}
use Rattle.classic.proofs.edges_of.square_edges.Goals as goal

pub returns-then-crossed : goal.returns-then-crossed
unfolding square_edges
returns-then-crossed c = rw (c.square_wrap.ensures, ← c.square_width-crossed.ensures, c.if-crossed.true) refl

pub returns-else-crossed : goal.returns-else-crossed
unfolding square_edges
returns-else-crossed c = rw (← c.square_width-crossed.ensures, c.if-crossed.false) refl
