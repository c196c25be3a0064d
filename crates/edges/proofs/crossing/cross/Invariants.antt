-- `edges::crossing::cross` meets its contract: the loop's laws are in OneByOne. Assumes nothing.
use Rattle.edges.proofs.OneByOne.{Come, left}
use Rattle.edges.proofs.crossing.cross.Given as goal

abbrev pub invariant-loop-w : goal.invariant-loop-w
invariant-loop-w g l =
    Come (record { width = g.W.Crossing.width_of l.w; rise = g.W.Crossing.rise_of l.w; fall = g.W.Crossing.fall_of l.w; rises = g.met.W.Crossing.rises l.w; falls = g.met.W.Crossing.falls l.w }) l.initial.e l.e

abbrev pub decreases-loop-w : goal.decreases-loop-w
decreases-loop-w g l = left l.e
