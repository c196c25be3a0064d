-- `render::hand_over` meets its contract: the text is copied where it fits. Assumes nothing.
use borrow.Author.Tests.{le-leb, lt-leb}
use Rattle.render.specs.Lists.{written}
use Rattle.render.proofs.hand_over.Goals as goal

pub returns-then-n-out : goal.returns-then-n-out
unfolding written
returns-then-n-out c = rw (lt-leb _ _ c.if-n-out.true)

pub returns-then-good : goal.returns-then-good
unfolding written
returns-then-good c = rw (le-leb _ _ c.if-n-out.false, c.copy_from_slice.ensures.after, c.if-good.true)

pub returns-else-good : goal.returns-else-good
unfolding written
returns-else-good c = rw (le-leb _ _ c.if-n-out.false, c.copy_from_slice.ensures.after, c.if-good.false)
