-- `variable_shape::waveform::naive` meets its contract. Assumes nothing.
use Rattle.variable_shape.specs.Waveform.{naive_of}
use mathlib.Core.Path.{refl}
use Rattle.variable_shape.proofs.waveform.naive.Goals as goal

pub returns : goal.returns
unfolding naive_of
returns c = rw (c.square.ensures, c.triangle.ensures) refl
