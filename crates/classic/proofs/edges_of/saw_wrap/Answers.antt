-- `classic::edges_of::saw_wrap` meets its contract. Assumes nothing.
use Rattle.std.proofs.Common.{refl}
use Rattle.classic.specs.Edges.{saw_wrap}
use Rattle.classic.proofs.edges_of.saw_wrap.Goals as goal

pub returns : goal.returns
unfolding saw_wrap
returns c = rw (c.next_blep_sample.ensures, c.this_blep_sample.ensures) refl
