-- `classic_face::render` meets its contract: the classic oscillator's own call, of the shape that the number names, put into words. Assumes nothing.
use Rattle.block.specs.Oscillator.{call_of}
use Rattle.classic_face.proofs.Calls.{called_by}
use Rattle.classic_face.proofs.render.Goals as goal

pub returns : goal.returns
unfolding call_of
returns c = rw (← called_by _ _ _ _ _) (rw c.parameters_of.ensures at c.render.ensures)
