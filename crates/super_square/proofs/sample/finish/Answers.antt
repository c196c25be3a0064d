-- `super_square::sample::finish` meets its contract. Assumes nothing.
use mathlib.Core.Path.{refl}
use Rattle.super_square.specs.Sample.{finish}
use Rattle.super_square.proofs.sample.finish.Goals as goal

pub returns : goal.returns
unfolding finish
returns c = rw c.counts.ensures refl
