-- `variable_shape_face::render` meets its contract: the variable shape's own call, put into words. Assumes nothing.
use Rattle.block.specs.Oscillator.{call_of}
use Rattle.variable_shape_face.proofs.render.Goals as goal

pub returns : goal.returns
unfolding call_of
returns c = c.render.ensures
