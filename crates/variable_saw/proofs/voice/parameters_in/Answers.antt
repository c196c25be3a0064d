-- `variable_saw::voice::parameters_in` meets its contract. Assumes nothing.
use mathlib.Core.List.{[], ◌∷◌}
use Rattle.ranges.proofs.AllOf.{joined_all}
use Rattle.variable_saw.specs.Block.{parameters_in}
use Rattle.variable_saw.proofs.voice.parameters_in.Goals as goal

pub returns : goal.returns
unfolding parameters_in
returns c = rw (c.parameter_frequency_in.ensures, c.unit_in.ensures, c.unit_in-2.ensures) (joined_all _ (_ ∷ _ ∷ []))
