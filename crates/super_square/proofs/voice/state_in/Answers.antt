-- `super_square::voice::state_in` meets its contract. Assumes nothing.
use mathlib.Core.List.{[], ◌∷◌}
use Rattle.ranges.proofs.AllOf.{joined_all}
use Rattle.super_square.specs.Block.{state_in}
use Rattle.super_square.proofs.voice.state_in.Goals as goal

pub returns : goal.returns
unfolding state_in
returns c = rw (c.phase_in.ensures, c.phase_in-2.ensures, c.frequency_in.ensures, c.frequency_in-2.ensures) (joined_all _ (_ ∷ _ ∷ _ ∷ []))
