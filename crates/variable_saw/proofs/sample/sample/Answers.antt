-- `variable_saw::sample::sample` meets its contract: a rise, a wrap, or neither, as the definition tests. Assumes nothing.
use Rattle.variable_saw.proofs.Samples.{sample_rises, sample_wraps, sample_stays}
use Rattle.variable_saw.proofs.sample.sample.Goals as goal

pub returns-then-e-steps : goal.returns-then-e-steps
returns-then-e-steps c =
    sample_rises _ _ _ _ _ _ _ c.new-w.ensures c.edge-e.ensures _ c.if-e-steps.true c.rise.ensures c.finish.ensures

pub returns-then-e : goal.returns-then-e
returns-then-e c =
    sample_wraps _ _ _ _ _ _ _ c.new-w.ensures c.edge-e.ensures c.if-e-steps.false _ c.if-e.true c.wrap.ensures c.finish-then-e.ensures

pub returns-else-e : goal.returns-else-e
returns-else-e c =
    sample_stays _ _ _ _ _ _ _ c.new-w.ensures c.edge-e.ensures c.if-e-steps.false c.if-e.false c.finish-else-e.ensures
