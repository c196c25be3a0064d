-- `string_synth::voice::gains_in` meets its contract. Assumes nothing.
use Rattle.std.proofs.Common.{[], ◌∷◌}
use Rattle.ranges.proofs.AllOf.{joined_all}
use Rattle.string_synth.specs.Block.{gains_in}
use Rattle.string_synth.proofs.voice.gains_in.Goals as goal

pub returns : goal.returns
unfolding gains_in
returns c = rw (c.modulation_or_gain_in.ensures, c.modulation_or_gain_in-2.ensures, c.modulation_or_gain_in-3.ensures, c.modulation_or_gain_in-4.ensures) (joined_all _ (_ ∷ _ ∷ _ ∷ []))
