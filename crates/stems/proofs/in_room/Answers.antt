-- `stems::in_room` meets its contract: the samples that were laid stand for the sound. Assumes nothing.
use mathlib.Core.Path.{◌∙◌}
use Rattle.stems.proofs.Ways.{laid_written}
use Rattle.stems.proofs.in_room.Goals as goal

pub returns : goal.returns
returns c = c.write.ensures ∙ laid_written _ _ _ _ _ c.lay-n.ensures
