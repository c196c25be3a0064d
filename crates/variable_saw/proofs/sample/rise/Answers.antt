-- `variable_saw::sample::rise` meets its contract. Assumes nothing.
use mathlib.Core.Path.{refl}
use Rattle.variable_saw.specs.Sample.{rise_of}
use Rattle.variable_saw.proofs.sample.rise.Goals as goal

pub returns : goal.returns
unfolding rise_of
returns c =
    let p = c.args in
    rw (c.risen.ensures, c.this_blep_sample.ensures, c.this_integrated_blep_sample.ensures, c.next_blep_sample.ensures, c.next_integrated_blep_sample.ensures, c.rise_time-t.ensures, c.triangle_step-step.ensures) (refl {a = rise_of p.w p.frequency p.previous_pw p.e})
