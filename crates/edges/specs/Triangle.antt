-- The triangle that two oscillators mix in, and the time of an edge at a width that moves, in the source's order: variable_saw_oscillator.rs and
-- variable_shape_oscillator.rs have the same lines. Assumes nothing.
use Rattle.std.specs.Prelude.{cond, Float}
use Rattle.std.specs.Float.Ieee.{lt}
use Rattle.floats.specs.F32.{◌⊕◌, ◌⊖◌, ◌⊗◌, ◌⊘◌, one32}

-- of compute_naive_sample: the saw's lines 128 to 132, the shape's 225 to 229
abbrev pub triangle : Float → Float → Float → Float → Float
triangle phase pw slopeUp slopeDown = cond (lt phase pw) (phase ⊗ slopeUp) (one32 ⊖ (phase ⊖ pw) ⊗ slopeDown)

-- the saw's lines 77 and 87; the shape's 150 and 151, 166 and 167
abbrev pub triangle_step : Float → Float → Float → Float → Float
triangle_step slopeUp slopeDown frequency amount = (slopeUp ⊕ slopeDown) ⊗ frequency ⊗ amount

-- how many samples ago the phase came to the width, the saw's line 79, the shape's 149. The width moves too: where it has moved up by just the
-- frequency, the divisor is 0 and this is an infinity or a NaN.
abbrev pub rise_time : Float → Float → Float → Float → Float
rise_time phase pw previousPw frequency = (phase ⊖ pw) ⊘ (previousPw ⊖ pw ⊕ frequency)
