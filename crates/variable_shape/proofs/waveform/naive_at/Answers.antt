-- `variable_shape::waveform::naive_at` meets its contract. Assumes nothing.
use Rattle.variable_shape.specs.Waveform.{waveform_of, naive_of}
use mathlib.Core.Path.{refl}
use Rattle.variable_shape.proofs.waveform.naive_at.Goals as goal

pub returns : goal.returns
unfolding waveform_of naive_of
returns c previousPw =
    rw (c.max-square_amount.ensures, c.max-triangle_amount.ensures, c.square.ensures, c.triangle_at.ensures) refl
