-- `variable_shape::waveform::at` meets its contract. Assumes nothing.
use Rattle.variable_shape.specs.Waveform.{waveform_of}
use mathlib.Core.Path.{refl}
use Rattle.variable_shape.proofs.waveform.at.Goals as goal

pub returns : goal.returns
unfolding waveform_of
returns c = rw (c.max.ensures, c.max-2.ensures) refl
