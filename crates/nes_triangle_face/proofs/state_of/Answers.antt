-- `nes_triangle_face::state_of` meets its contract: field by field. Assumes nothing.
use Rattle.words.proofs.Signs.{signed_kept}
use Rattle.nes_triangle_face.specs.Words.{state_of}
use Rattle.nes_triangle_face.proofs.state_of.Goals as goal

pub returns : goal.returns
unfolding state_of
returns c = cc (signed_kept _ _ c.signed.ensures)
