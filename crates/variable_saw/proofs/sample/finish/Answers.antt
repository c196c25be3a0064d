-- `variable_saw::sample::finish` meets its contract. Assumes nothing.
use mathlib.Core.Path.{refl}
use Rattle.variable_saw.specs.Sample.{finish}
use Rattle.variable_saw.proofs.sample.finish.Goals as goal

pub returns : goal.returns
unfolding finish
returns c = rw (c.compute_naive_sample.ensures, c.put_out.ensures, c.counts.ensures) refl
