-- `edges::crossing::cross` meets its contract: the loop's laws are in OneByOne. Assumes nothing.
use Rattle.edges.proofs.CrossingLoop.{going_start}
use Rattle.edges.proofs.OneByOne.{turned, tested, comes_down, down_less, comes_up, comes_to}
use Rattle.edges.proofs.crossing.cross.Goals as goal

pub loop-w-init : goal.loop-w-init
loop-w-init g c = turned (going_start c.requires)

pub loop-w-smaller-then-e : goal.loop-w-smaller-then-e
loop-w-smaller-then-e g c = down_less c.loop-w.invariant c.if-e.true (tested c.loop-w.e c.width.ensures c.is_uncrossed.ensures c.loop-w-test.true) c.fall-e.ensures

pub loop-w-preserved-then-e : goal.loop-w-preserved-then-e
loop-w-preserved-then-e g c = comes_down c.loop-w.invariant c.if-e.true (tested c.loop-w.e c.width.ensures c.is_uncrossed.ensures c.loop-w-test.true) c.fall-e.ensures

pub loop-w-preserved : goal.loop-w-preserved
loop-w-preserved g c = comes_up c.loop-w.invariant c.if-e.false (tested c.loop-w.e c.width.ensures c.is_uncrossed.ensures c.loop-w-test.true) c.rise-e.ensures

pub returns : goal.returns
returns g c = comes_to c.loop-w.invariant (tested c.loop-w.e c.width.ensures c.is_uncrossed.ensures c.loop-w-test.false)
