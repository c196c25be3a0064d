-- `classic::edges_of::triangle_edges` meets its contract: the width, and then the end of the cycle. Assumes nothing.
use Rattle.std.proofs.Common.{refl}
use Rattle.classic.specs.Edges.{triangle_edges}
use Rattle.classic.proofs.edges_of.triangle_edges.Goals as goal

pub returns-then-crossed : goal.returns-then-crossed
unfolding triangle_edges
returns-then-crossed c = rw (c.triangle_wrap.ensures, ← c.triangle_width-crossed.ensures, c.if-crossed.true) refl

pub returns-else-crossed : goal.returns-else-crossed
unfolding triangle_edges
returns-else-crossed c = rw (← c.triangle_width-crossed.ensures, c.if-crossed.false) refl
