-- `string_synth::sample::next_sample` meets its contract. Assumes nothing.
use Rattle.std.proofs.Common.{refl}
use Rattle.string_synth.specs.Sample.{next_sample}
use Rattle.string_synth.proofs.sample.next_sample.Goals as goal

pub returns : goal.returns
unfolding next_sample
returns c =
    rw c.requires refl
