-- `string_synth::sample::soften` meets its contract: each way of the test is the definition's. Assumes nothing.
use Rattle.string_synth.specs.Sample.{softened}
use Rattle.string_synth.proofs.sample.soften.Goals as goal

pub returns-then-discontinuity : goal.returns-then-discontinuity
unfolding softened
returns-then-discontinuity c = rw c.if-discontinuity.true c.blep.ensures

pub returns-else-discontinuity : goal.returns-else-discontinuity
unfolding softened
returns-else-discontinuity c = rw c.if-discontinuity.false
