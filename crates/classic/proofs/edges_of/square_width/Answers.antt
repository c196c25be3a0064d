-- `classic::edges_of::square_width` meets its contract: each way of the test is the definition's. Assumes nothing.
use Rattle.std.proofs.Common.{refl}
use mathlib.Core.Bool.{xor}
use Rattle.classic.specs.Edges.{square_at_width}
use Rattle.classic.proofs.edges_of.square_width.Goals as goal

pub returns-then-e-pw : goal.returns-then-e-pw
unfolding square_at_width xor
returns-then-e-pw c = rw c.if-e-pw.true c.square_cross.ensures

pub returns-else-e-pw : goal.returns-else-e-pw
unfolding square_at_width xor
returns-else-e-pw c = rw c.if-e-pw.false refl
