-- `variable_shape::sample::finish` meets its contract. Assumes nothing.
use mathlib.Core.Path.{refl}
use Rattle.variable_shape.specs.Sample.{finish}
use Rattle.variable_shape.proofs.sample.finish.Goals as goal

pub returns : goal.returns
unfolding finish
returns c = rw (c.output.ensures, c.counts.ensures) refl
