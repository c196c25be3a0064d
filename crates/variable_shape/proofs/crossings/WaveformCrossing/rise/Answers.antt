-- `variable_shape::crossings::WaveformCrossing::rise` meets its contract. Assumes nothing.
use Rattle.variable_shape.specs.Sample.{rise_of}
use mathlib.Core.Path.{refl}
use Rattle.variable_shape.proofs.crossings.WaveformCrossing.rise.Goals as goal

pub returns : goal.returns
unfolding rise_of
returns c =
    rw (c.risen.ensures, c.triangle_step-step.ensures, c.this_blep_sample.ensures, c.this_integrated_blep_sample.ensures, c.next_blep_sample.ensures, c.next_integrated_blep_sample.ensures, c.rise_time-t.ensures) refl
