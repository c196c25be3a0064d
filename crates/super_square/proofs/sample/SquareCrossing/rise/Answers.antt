-- `super_square::sample::SquareCrossing::rise` meets its contract. Assumes nothing.
use mathlib.Core.Path.{refl}
use Rattle.super_square.specs.Sample.{rise_of}
use Rattle.super_square.proofs.sample.SquareCrossing.rise.Goals as goal

pub returns : goal.returns
unfolding rise_of
returns c = rw (c.risen.ensures, c.this_blep_sample.ensures, c.next_blep_sample.ensures) refl
