-- `variable_saw::sample::wrap` meets its contract. Assumes nothing.
use mathlib.Core.Path.{refl}
use Rattle.variable_saw.specs.Sample.{wrap_of}
use Rattle.variable_saw.proofs.sample.wrap.Goals as goal

pub returns : goal.returns
unfolding wrap_of
returns c =
    let p = c.args in
    rw (c.wrapped.ensures, c.this_blep_sample.ensures, c.this_integrated_blep_sample.ensures, c.next_blep_sample.ensures, c.next_integrated_blep_sample.ensures, c.triangle_step-step.ensures) (refl {a = wrap_of p.w p.frequency p.e})
