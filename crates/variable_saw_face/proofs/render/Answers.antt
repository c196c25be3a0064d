-- `variable_saw_face::render` meets its contract: the variable saw's own call, put into words. Assumes nothing.
use Rattle.block.specs.Oscillator.{call_of}
use Rattle.variable_saw_face.proofs.render.Goals as goal

pub returns : goal.returns
unfolding call_of
returns c = c.render.ensures
