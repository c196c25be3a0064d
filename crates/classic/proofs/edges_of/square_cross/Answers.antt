-- `classic::edges_of::square_cross` meets its contract. Assumes nothing.
use Rattle.std.proofs.Common.{refl}
use Rattle.classic.specs.Edges.{square_cross}
use Rattle.classic.proofs.edges_of.square_cross.Goals as goal

pub returns : goal.returns
unfolding square_cross
returns c =
    rw (c.turn.ensures, c.next_blep_sample.ensures, c.this_blep_sample.ensures) refl
