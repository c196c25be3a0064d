-- `string_synth::voice::parameters_in` meets its contract. Assumes nothing.
use Rattle.std.proofs.Common.{[], ◌∷◌}
use Rattle.ranges.proofs.AllOf.{joined_all}
use Rattle.string_synth.specs.Block.{parameters_in}
use Rattle.string_synth.proofs.voice.parameters_in.Goals as goal

pub returns : goal.returns
unfolding parameters_in
returns c = rw (c.parameter_frequency_in.ensures, c.registration_in.ensures, c.within.ensures) (joined_all _ (_ ∷ _ ∷ []))
