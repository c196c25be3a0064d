-- `render::render` meets its contract: the text is composed apart, and handed over where it fits. Assumes nothing.
use Rattle.render.proofs.render.Goals as goal

pub returns : goal.returns
returns c = cc
