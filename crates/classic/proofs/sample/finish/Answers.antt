-- `classic::sample::finish` meets its contract. Assumes nothing.
use Rattle.std.proofs.Common.{refl}
use Rattle.classic.specs.Sample.{finish}
use Rattle.classic.proofs.sample.finish.Goals as goal

pub returns : goal.returns
unfolding finish
returns c =
    rw (c.counts.ensures, c.kept_width.ensures, c.put_out-o.ensures, c.naive_sample.ensures, c.width_of-pw.ensures) refl
