-- `nes_triangle::sample::finish` meets its contract. Assumes nothing.
use Rattle.std.proofs.Common.{pos, arith, to_z-of_z, w32, SFits}
use Rattle.nes_triangle.specs.Sample.{finish}
use Rattle.nes_triangle.specs.Private.{reached_of}
use Rattle.nes_triangle.proofs.sample.finish.Goals as goal

pub returns : goal.returns
unfolding finish reached_of
returns c =
    let step_fits : SFits w32 (pos c.args.e.step) = record { sfits = omega (arith, c.requires.0, c.requires.1) } in
    λ s t x e. rw (c.tri_level.ensures, c.small-level.ensures, c.nes_level.ensures.0, to_z-of_z step_fits, e)
