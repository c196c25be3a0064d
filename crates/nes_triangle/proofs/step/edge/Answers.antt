-- `nes_triangle::step::edge` meets its contract: each way of the test is the definition's. Assumes nothing.
use Rattle.nes_triangle.specs.Sample.{edge_of}
use Rattle.nes_triangle.proofs.step.edge.Goals as goal

pub returns-then-t-discontinuity : goal.returns-then-t-discontinuity
unfolding edge_of
returns-then-t-discontinuity c =
    rw (c.if-t-discontinuity.true, c.this_blep_sample.ensures, c.next_blep_sample.ensures, c.small.ensures)

pub returns-else-t-discontinuity : goal.returns-else-t-discontinuity
unfolding edge_of
returns-else-t-discontinuity c = rw c.if-t-discontinuity.false
