-- `string_synth::targets::lower` meets its contract: the loop's law stands in `Octaves`. Each turn brings the shift nearer to 8, so the
-- loop ends for every float. Assumes nothing.
use Rattle.std.proofs.Common.{arith}
use Rattle.string_synth.proofs.Octaves.{lowering_start, lowering_below, lowering_more, lowering_end}
use Rattle.string_synth.proofs.targets.lower.Goals as goal

pub loop-f-init : goal.loop-f-init
loop-f-init c = lowering_start _

pub overflow_add-shift : goal.overflow_add-shift
overflow_add-shift c = omega (arith, lowering_below c.loop-f.f c.loop-f.shift c.loop-f-test.true)

pub loop-f-smaller : goal.loop-f-smaller
loop-f-smaller c = omega (arith, lowering_below c.loop-f.f c.loop-f.shift c.loop-f-test.true)

pub loop-f-preserved : goal.loop-f-preserved
loop-f-preserved c = lowering_more _ _ _ c.loop-f.invariant c.loop-f-test.true

pub returns : goal.returns
returns c = lowering_end _ _ _ c.loop-f.invariant c.loop-f-test.false
