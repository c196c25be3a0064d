-- `classic::voice::state_in` meets its contract. Assumes nothing.
use Rattle.std.proofs.Common.{[], ◌∷◌}
use Rattle.ranges.proofs.AllOf.{joined_all}
use Rattle.classic.specs.Block.{state_in}
use Rattle.classic.proofs.voice.state_in.Goals as goal

pub returns : goal.returns
unfolding state_in
returns c = rw (c.phase_in.ensures, c.frequency_in.ensures, c.unit_in.ensures) (joined_all _ (_ ∷ _ ∷ []))
