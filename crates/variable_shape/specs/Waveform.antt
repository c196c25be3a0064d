-- The waveform of the variable shape at one sample: variable_shape_oscillator.rs, lines 107 to 110 and 214 to 234, in its order. Assumes nothing.
use Rattle.std.specs.Prelude.{cond, Float}
use Rattle.std.specs.Float.Ieee.{lt}
use Rattle.floats.specs.F32.{◌⊕◌, ◌⊖◌, ◌⊗◌, ◌⊘◌, zero32, half32, one32, two32}
use Rattle.floats.specs.Helpers.{max_of}
use Rattle.edges.specs.Triangle.{triangle}
use Rattle.variable_shape.specs.declared.steps.Steps.{Steps}
use Rattle.variable_shape.specs.declared.waveform.Waveform.{Waveform}

-- lines 107 to 110, with the step and the widths that the crossings need: this sample's, and the one before it
unfoldable pub waveform_of : Steps → Float → Waveform
waveform_of steps previousPw = record {
  slave_frequency = steps.slave_frequency;
  previous_pw = previousPw;
  pw = steps.pw;
  square_amount = max_of (steps.waveshape ⊖ half32) zero32 ⊗ two32;
  triangle_amount = max_of (one32 ⊖ steps.waveshape ⊗ two32) zero32;
  slope_up = one32 ⊘ steps.pw;
  slope_down = one32 ⊘ (one32 ⊖ steps.pw);
}

-- line 224
abbrev pub square_of : Float → Float → Float
square_of phase pw = cond (lt phase pw) zero32 one32

-- `compute_naive_sample`, lines 223 to 233: a saw, some way to the square, and from there some way to the triangle
unfoldable pub naive_of : Waveform → Float → Float
naive_of w phase =
    let saw = phase ⊕ (square_of phase w.pw ⊖ phase) ⊗ w.square_amount in
    saw ⊕ (triangle phase w.pw w.slope_up w.slope_down ⊖ saw) ⊗ w.triangle_amount
