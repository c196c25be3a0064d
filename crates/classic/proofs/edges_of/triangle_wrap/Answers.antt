-- `classic::edges_of::triangle_wrap` meets its contract. Assumes nothing.
use Rattle.std.proofs.Common.{refl}
use Rattle.classic.specs.Edges.{triangle_wrap}
use Rattle.classic.proofs.edges_of.triangle_wrap.Goals as goal

pub returns : goal.returns
unfolding triangle_wrap
returns c =
    rw (c.turn.ensures, c.next_integrated_blep_sample.ensures, c.this_integrated_blep_sample.ensures) refl
