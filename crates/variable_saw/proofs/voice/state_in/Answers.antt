-- `variable_saw::voice::state_in` meets its contract. Assumes nothing.
use mathlib.Core.List.{[], ◌∷◌}
use Rattle.ranges.proofs.AllOf.{joined_all}
use Rattle.variable_saw.specs.Block.{state_in}
use Rattle.variable_saw.proofs.voice.state_in.Goals as goal

pub returns : goal.returns
unfolding state_in
returns c = rw (c.saw_phase_in.ensures, c.unit_in.ensures, c.frequency_in.ensures, c.unit_in-2.ensures, c.waveshape_in.ensures) (joined_all _ (_ ∷ _ ∷ _ ∷ _ ∷ []))
