-- `render::play` meets its contract: 4,096 samples are room enough. Assumes nothing.
use native.Mathlib.Omega.{arith}
use Rattle.render.proofs.Loop.{said}
use Rattle.render.proofs.play.Goals as goal

pub returns : goal.returns
returns c = said _ _ _ _ _ _ (omega arith) c.play.ensures
