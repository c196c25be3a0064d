-- `string_synth::sample::sample` meets its contract. Assumes nothing.
use Rattle.std.proofs.Common.{refl}
use Rattle.string_synth.proofs.Segments.{reached_small}
use Rattle.string_synth.specs.Sample.{sample_of}
use Rattle.string_synth.proofs.sample.sample.Goals as goal

pub finish-requires-clause-segment_in_range : goal.finish-requires-clause-segment_in_range
finish-requires-clause-segment_in_range c = rw c.reach-e.ensures (reached_small _ _)

pub returns : goal.returns
unfolding sample_of
returns c = rw (c.finish.ensures, c.reach-e.ensures) refl
