-- `nes_triangle::step::trough` meets its contract: each way of the test is the definition's. Assumes nothing.
use Rattle.nes_triangle.specs.Sample.{trough_of}
use Rattle.nes_triangle.proofs.step.trough.Goals as goal

pub returns-then-here-discontinuity : goal.returns-then-here-discontinuity
unfolding trough_of
returns-then-here-discontinuity c =
    rw (c.if-here-discontinuity.true, c.this_integrated_blep_sample.ensures, c.next_integrated_blep_sample.ensures)

pub returns-else-here-discontinuity : goal.returns-else-here-discontinuity
unfolding trough_of
returns-else-here-discontinuity c = rw c.if-here-discontinuity.false
