-- `string_synth::voice::state_in` meets its contract. Assumes nothing.
use Rattle.std.proofs.Common.{[], ◌∷◌}
use Rattle.ranges.proofs.AllOf.{joined_all}
use Rattle.string_synth.specs.Block.{state_in}
use Rattle.string_synth.proofs.voice.state_in.Goals as goal

pub returns : goal.returns
unfolding state_in
returns c = rw (c.place_in.ensures, c.within.ensures, c.gains_in.ensures) (joined_all _ (_ ∷ _ ∷ _ ∷ []))
