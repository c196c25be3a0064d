-- `nes_triangle::voice::parameters_in` meets its contract. Assumes nothing.
use Rattle.std.proofs.Common.{[], ◌∷◌}
use Rattle.ranges.proofs.AllOf.{joined_all}
use Rattle.nes_triangle.specs.Block.{parameters_in}
use Rattle.nes_triangle.proofs.voice.parameters_in.Goals as goal

pub returns : goal.returns
unfolding parameters_in
returns c = rw (c.parameter_frequency_in.ensures, c.bits_in.ensures) (joined_all _ (_ ∷ []))
