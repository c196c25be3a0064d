-- `variable_saw::quiet::sample` meets its contract: under its test it is what the definition gives. Assumes nothing.
use mathlib.Core.Path.{sym}
use Rattle.variable_saw.specs.Sample.{finish}
use Rattle.variable_saw.proofs.Samples.{sample_quiet}
use Rattle.variable_saw.proofs.quiet.sample.Goals as goal

pub returns-clause-made : goal.returns-clause-made
unfolding finish
returns-clause-made c =
    let p = c.args in
    rw (c.naive_sample.ensures, c.put_out.ensures, c.none.ensures) (sym (sample_quiet p.s p.steps.frequency p.steps.pw p.steps.waveshape c.requires))
