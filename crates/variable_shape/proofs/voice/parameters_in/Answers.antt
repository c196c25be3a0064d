-- `variable_shape::voice::parameters_in` meets its contract. Assumes nothing.
use Rattle.variable_shape.specs.Block.{parameters_in}
use mathlib.Core.List.{[], ◌∷◌}
use Rattle.ranges.proofs.AllOf.{joined_all}
use Rattle.variable_shape.proofs.voice.parameters_in.Goals as goal

pub returns : goal.returns
unfolding parameters_in
returns c = rw (c.parameter_frequency_in.ensures, c.parameter_frequency_in-2.ensures, c.unit_in.ensures, c.unit_in-2.ensures, c.within.ensures) (joined_all _ (_ ∷ _ ∷ _ ∷ _ ∷ []))
