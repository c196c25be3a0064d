-- `variable_shape_face::init` meets its contract: the words of the oscillator's own initial state. Assumes nothing.
use Rattle.variable_shape_face.proofs.init.Goals as goal

pub returns : goal.returns
returns c = cc
