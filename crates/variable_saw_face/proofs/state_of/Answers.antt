-- `variable_saw_face::state_of` meets its contract: field by field. Assumes nothing.
use Rattle.variable_saw_face.specs.Words.{state_of}
use Rattle.variable_saw_face.proofs.state_of.Goals as goal

pub returns : goal.returns
unfolding state_of
returns c = cc
