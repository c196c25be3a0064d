-- `super_square::quiet::sample` meets its contract: under its test it is what the definition gives. Assumes nothing.
use mathlib.Core.Path.{sym}
use Rattle.super_square.specs.Sample.{finish}
use Rattle.super_square.proofs.Samples.{sample_quiet}
use Rattle.super_square.proofs.quiet.sample.Goals as goal

pub returns-clause-made : goal.returns-clause-made
unfolding finish
returns-clause-made c =
    let p = c.args in
    rw (c.level.ensures, c.none.ensures) (sym (sample_quiet p.s p.master_frequency p.slave_frequency c.requires))
