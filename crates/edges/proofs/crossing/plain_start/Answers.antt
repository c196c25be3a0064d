-- `edges::crossing::plain_start` meets its contract. Assumes nothing.
use Rattle.std.proofs.Common.{refl}
use Rattle.edges.specs.Private.{plain_start}
use Rattle.edges.proofs.crossing.plain_start.Goals as goal

pub returns : goal.returns
unfolding plain_start
returns c = rw c.step.ensures refl
