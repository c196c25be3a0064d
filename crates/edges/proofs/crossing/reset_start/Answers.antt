-- `edges::crossing::reset_start` meets its contract. Assumes nothing.
use Rattle.std.proofs.Common.{refl}
use Rattle.edges.specs.Private.{reset_start}
use Rattle.edges.proofs.crossing.reset_start.Goals as goal

pub returns : goal.returns
unfolding reset_start
returns g c = rw (c.cut.ensures, c.level.ensures, c.step.ensures, c.at_reset-found.ensures, c.width.ensures) refl
