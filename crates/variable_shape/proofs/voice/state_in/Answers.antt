-- `variable_shape::voice::state_in` meets its contract. Assumes nothing.
use Rattle.variable_shape.specs.Block.{state_in}
use mathlib.Core.List.{[], ◌∷◌}
use Rattle.ranges.proofs.AllOf.{joined_all}
use Rattle.variable_shape.proofs.voice.state_in.Goals as goal

pub returns : goal.returns
unfolding state_in
returns c = rw (c.phase_in.ensures, c.phase_in-2.ensures, c.unit_in.ensures, c.frequency_in.ensures, c.frequency_in-2.ensures, c.unit_in-2.ensures, c.waveshape_in.ensures, c.modulation_or_gain_in.ensures) (joined_all _ (_ ∷ _ ∷ _ ∷ _ ∷ _ ∷ _ ∷ _ ∷ []))
