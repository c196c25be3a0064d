-- `variable_shape::sample::sample` meets its contract: its parts make the definition. Assumes nothing.
use Rattle.variable_shape.proofs.Samples.{sample_is, slave_crossable}
use Rattle.variable_shape.proofs.sample.sample.Goals as goal

pub pass-p-requires : goal.pass-p-requires
pass-p-requires c = slave_crossable c.at-w.ensures c.requires

pub returns : goal.returns
returns c = sample_is _ _ _ _ c.at-w.ensures c.master_step.ensures c.pass-p.ensures c.after-t.ensures c.finish.ensures
