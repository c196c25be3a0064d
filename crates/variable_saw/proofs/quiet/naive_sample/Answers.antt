-- `variable_saw::quiet::naive_sample` meets its contract. Assumes nothing.
use Rattle.variable_saw.specs.Sample.{naive}
use Rattle.variable_saw.proofs.quiet.naive_sample.Goals as goal

pub returns : goal.returns
unfolding naive
returns c = rw (c.notch_saw.ensures, c.triangle_at.ensures)
