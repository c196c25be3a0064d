-- `super_square::voice::glides` meets its contract. Assumes nothing.
use mathlib.Core.List.{[], ◌∷◌}
use Rattle.ranges.proofs.AllOf.{joined_all}
use Rattle.super_square.proofs.voice.glides.Goals as goal

pub returns : goal.returns
returns c = cc (joined_all c.safe.result (c.safe-2.result ∷ []))
