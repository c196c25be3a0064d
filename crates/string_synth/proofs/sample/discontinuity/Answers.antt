-- `string_synth::sample::discontinuity` meets its contract. Assumes nothing.
use Rattle.std.proofs.Common.{refl}
use Rattle.string_synth.specs.Sample.{discontinuity_of}
use Rattle.string_synth.proofs.sample.discontinuity.Goals as goal

pub returns : goal.returns
unfolding discontinuity_of
returns c = rw (c.less_if-of_2.ensures, c.less_if-of_4.ensures, c.less_if-of_8.ensures) refl
