-- `super_square_face::render` meets its contract: the super square's own call, put into words. Assumes nothing.
use Rattle.block.specs.Oscillator.{call_of}
use Rattle.super_square_face.proofs.render.Goals as goal

pub returns : goal.returns
unfolding call_of
returns c = c.render.ensures
