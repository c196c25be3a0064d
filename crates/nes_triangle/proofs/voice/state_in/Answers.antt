-- `nes_triangle::voice::state_in` meets its contract. Assumes nothing.
use Rattle.std.proofs.Common.{rules, [], ◌∷◌, to_z-of_z, w32}
use Rattle.ranges.proofs.AllOf.{joined_all}
use Rattle.nes_triangle.specs.Block.{state_in}
use Rattle.nes_triangle.proofs.voice.state_in.Goals as goal

pub returns : goal.returns
unfolding state_in
returns c =
    rw (c.step_in.ensures, c.frequency_in.ensures, c.phase_in.ensures, to_z-of_z {w = w32} {z = c.args.s.step} (search rules)) (joined_all _ (_ ∷ _ ∷ []))
