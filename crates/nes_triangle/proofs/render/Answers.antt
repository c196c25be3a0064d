-- `nes_triangle::render` meets its contract: it is the call of any oscillator, and so the NES triangle's. Assumes nothing.
use Rattle.block.specs.Oscillator.{call_of}
use Rattle.nes_triangle.proofs.render.Goals as goal

pub returns : goal.returns
unfolding call_of
returns c = c.render.ensures
