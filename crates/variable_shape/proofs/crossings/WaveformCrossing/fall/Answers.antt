-- `variable_shape::crossings::WaveformCrossing::fall` meets its contract. Assumes nothing.
use Rattle.variable_shape.specs.Sample.{fall_of}
use mathlib.Core.Path.{refl}
use Rattle.variable_shape.proofs.crossings.WaveformCrossing.fall.Goals as goal

pub returns : goal.returns
unfolding fall_of
returns c =
    rw (c.fallen.ensures, c.triangle_step-step.ensures, c.this_blep_sample.ensures, c.this_integrated_blep_sample.ensures, c.next_blep_sample.ensures, c.next_integrated_blep_sample.ensures) refl
