-- `classic::quiet::sample` meets its contract: under its test it is what the definition gives. Assumes nothing.
use Rattle.std.proofs.Common.{sym}
use Rattle.classic.specs.Sample.{finish}
use Rattle.classic.proofs.Samples.{sample_quiet}
use Rattle.classic.proofs.quiet.sample.Goals as goal

pub returns-clause-made : goal.returns-clause-made
unfolding finish
returns-clause-made c =
    rw (c.none.ensures, c.kept_width.ensures, c.put_out-o.ensures, c.naive_sample-next_sample.ensures, c.width_of-pw.ensures) (sym (sample_quiet c.args.shape c.args.s c.args.frequency c.args.step c.requires))
