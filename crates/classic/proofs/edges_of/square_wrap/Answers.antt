-- `classic::edges_of::square_wrap` meets its contract. Assumes nothing.
use Rattle.std.proofs.Common.{refl}
use Rattle.classic.specs.Edges.{square_wrap}
use Rattle.classic.proofs.edges_of.square_wrap.Goals as goal

pub returns : goal.returns
unfolding square_wrap
returns c =
    rw (c.turn.ensures, c.next_blep_sample.ensures, c.this_blep_sample.ensures) refl
