-- `classic_face::words_of` meets its contract: field by field. Assumes nothing.
use Rattle.classic_face.specs.Words.{words_of}
use Rattle.classic_face.proofs.words_of.Goals as goal

pub returns : goal.returns
unfolding words_of
returns c = cc
