-- `variable_shape::quiet::sample` meets its contract: under its test it is what the definition gives. Assumes nothing.
use mathlib.Core.Path.{sym}
use Rattle.variable_shape.specs.Sample.{finish}
use Rattle.variable_shape.proofs.Samples.{sample_quiet}
use Rattle.variable_shape.proofs.quiet.sample.Goals as goal

pub returns-clause-made : goal.returns-clause-made
unfolding finish
returns-clause-made c =
    let p = c.args in
    rw (c.naive_at.ensures p.s.previous_pw, c.output.ensures, c.master_step-master_phase.ensures, c.none.ensures) (sym (sample_quiet p.sync p.phase_output p.s p.steps c.requires))
