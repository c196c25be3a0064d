-- `nes_triangle_face::words_of` meets its contract: field by field. Assumes nothing.
use mir.Facts.{to_z-of_z}
use Rattle.nes_triangle_face.specs.Words.{words_of}
use Rattle.nes_triangle_face.proofs.words_of.Goals as goal

pub returns : goal.returns
unfolding words_of
returns c = cc (to_z-of_z (record { sfits = c.struct_told-1.given.1.1.0.1 }))
