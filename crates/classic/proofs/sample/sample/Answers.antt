-- `classic::sample::sample` meets its contract. Assumes nothing.
use Rattle.std.proofs.Common.{refl}
use Rattle.classic.specs.Sample.{sample_of}
use Rattle.classic.proofs.sample.sample.Goals as goal

pub returns : goal.returns
unfolding sample_of
returns c =
    rw (c.finish.ensures, c.edges_of-e.ensures, c.width_of.ensures, c.one_if-cycles.ensures, c.start-start.ensures) refl
