-- `classic::edges_of::triangle_cross` meets its contract. Assumes nothing.
use Rattle.std.proofs.Common.{refl}
use Rattle.classic.specs.Edges.{triangle_cross}
use Rattle.classic.proofs.edges_of.triangle_cross.Goals as goal

pub returns : goal.returns
unfolding triangle_cross
returns c =
    rw (c.turn.ensures, c.next_integrated_blep_sample.ensures, c.this_integrated_blep_sample.ensures) refl
