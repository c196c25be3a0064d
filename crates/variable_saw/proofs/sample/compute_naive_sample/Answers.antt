-- `variable_saw::sample::compute_naive_sample` meets its contract. Assumes nothing.
use mathlib.Core.Path.{refl}
use Rattle.variable_saw.specs.Sample.{naive}
use Rattle.variable_saw.proofs.sample.compute_naive_sample.Goals as goal

pub returns : goal.returns
unfolding naive
returns c = rw (c.notch_saw.ensures, c.triangle.ensures) refl
