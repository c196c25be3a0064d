-- `nes_triangle::depth::of_bits` meets its contract. Assumes nothing.
use Rattle.std.proofs.Common.{refl}
use Rattle.nes_triangle.specs.Depth.{depth_of}
use Rattle.nes_triangle.proofs.Depths.{two_steps, top_some}
use Rattle.nes_triangle.proofs.depth.of_bits.Goals as goal

pub scale-requires : goal.scale-requires
scale-requires c =
    top_some c.steps-num_steps.result _ (rw c.steps-num_steps.ensures (two_steps _ c.requires.0)) c.top-top.ensures

pub returns : goal.returns
unfolding depth_of
returns c = rw (c.scale.ensures, c.nearest_u32_to_f32.ensures, c.top-top.ensures, c.steps-num_steps.ensures) refl
