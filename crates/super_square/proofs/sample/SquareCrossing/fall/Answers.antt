-- `super_square::sample::SquareCrossing::fall` meets its contract. Assumes nothing.
use mathlib.Core.Path.{refl}
use Rattle.super_square.specs.Sample.{fall_of}
use Rattle.super_square.proofs.sample.SquareCrossing.fall.Goals as goal

pub returns : goal.returns
unfolding fall_of
returns c = rw (c.fallen.ensures, c.this_blep_sample.ensures, c.next_blep_sample.ensures) refl
