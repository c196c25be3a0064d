-- `classic::voice::parameters_in` meets its contract. Assumes nothing.
use Rattle.std.proofs.Common.{[], ◌∷◌}
use Rattle.ranges.proofs.AllOf.{joined_all}
use Rattle.classic.specs.Block.{parameters_in}
use Rattle.classic.proofs.voice.parameters_in.Goals as goal

pub returns : goal.returns
unfolding parameters_in
returns c = rw (c.parameter_frequency_in.ensures, c.unit_in.ensures) (joined_all _ (_ ∷ []))
