-- `variable_shape_face::words_of` meets its contract: field by field. Assumes nothing.
use Rattle.variable_shape_face.specs.Words.{words_of}
use Rattle.variable_shape_face.proofs.words_of.Goals as goal

pub returns : goal.returns
unfolding words_of
returns c = cc
