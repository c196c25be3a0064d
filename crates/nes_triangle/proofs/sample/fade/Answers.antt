-- `nes_triangle::sample::fade` meets its contract. Assumes nothing.
use Rattle.nes_triangle.specs.Sample.{gains_of}
use Rattle.nes_triangle.proofs.sample.fade.Goals as goal

pub returns : goal.returns
unfolding gains_of
returns c = rw c.clamp-fade_to_tri.ensures
