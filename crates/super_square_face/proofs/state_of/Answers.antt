-- `super_square_face::state_of` meets its contract: field by field. Assumes nothing.
use Rattle.super_square_face.specs.Words.{state_of}
use Rattle.super_square_face.proofs.state_of.Goals as goal

pub returns : goal.returns
unfolding state_of
returns c = cc
