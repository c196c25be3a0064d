-- `nes_triangle::step::come_to` meets its contract. Assumes nothing.
use Rattle.nes_triangle.specs.Private.{reached_of}
use Rattle.nes_triangle.proofs.step.come_to.Goals as goal

pub returns : goal.returns
unfolding reached_of
returns c = rw (c.one_if.ensures, c.one_if-2.ensures)
