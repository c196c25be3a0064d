-- `nes_triangle::step::turn` meets its contract: each way of the test is the definition's. Assumes nothing.
use Rattle.std.proofs.Common.{le-leb}
use borrow.Author.Tests.{lt-leb}
use Rattle.nes_triangle.specs.Sample.{trough_of}
use Rattle.nes_triangle.specs.Private.{turned_of}
use Rattle.nes_triangle.proofs.step.turn.Goals as goal

pub returns-then-whole-d : goal.returns-then-whole-d
unfolding turned_of
returns-then-whole-d c =
    rw (c.come_to.ensures, c.trough-z.ensures, c.jump-y.ensures, le-leb _ _ c.if-whole-d.true)

pub returns-else-whole-d : goal.returns-else-whole-d
unfolding turned_of trough_of
returns-else-whole-d c = rw (c.come_to-else-whole-d.ensures, c.jump-y-else-whole-d.ensures, lt-leb _ _ c.if-whole-d.false)
