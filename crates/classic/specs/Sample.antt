-- One sample of the classic oscillator: oscillator.rs, lines 91 to 229, in its order. Assumes nothing.
use Rattle.std.specs.Prelude.{ℕ, Bool, cond, List, slice_index_or, Float}
use Rattle.std.specs.Float.Ieee.{lt, le}
use Rattle.floats.specs.F32.{◌⊕◌, ◌⊖◌, ◌⊗◌, ◌⊘◌, zero32, one32, two32}
use Rattle.block.specs.Counting.{one_if}
use Rattle.block.specs.declared.sample.Sample.{Sample}
use Rattle.edges.specs.declared.Edge.{Edge}
use Rattle.edges.specs.Counted.{start_of, counts_of}
use Rattle.classic.specs.declared.State.{State}
use Rattle.classic.specs.declared.OscillatorShape.{OscillatorShape}
use Rattle.classic.specs.declared.OscillatorShape.TheVariants.{ImpulseTrain, Saw, Triangle, Slope, Square, SquareBright, SquareDark, SquareTriangle}
use Rattle.classic.specs.Shapes.{width_of, kept_width}
use Rattle.classic.specs.Edges.{edges_of}
use Rattle.classic.specs.Output.{output_of}

-- lines 169 to 173
abbrev pub triangle_at : Float → Float → Float → Float → Bool → Float
triangle_at slopeUp slopeDown pw phase high = cond high (phase ⊗ slopeUp) (one32 ⊖ (phase ⊖ pw) ⊗ slopeDown)

-- line 203
abbrev pub square_at : Float → Float → Float
square_at pw phase = cond (lt phase pw) zero32 one32

-- what is added to `next_sample`: lines 126, 169 to 173 with the slopes of lines 138 to 143, and 203
unfoldable pub naive : OscillatorShape → Float → Float → Bool → Float
naive ImpulseTrain pw phase high = phase
naive Saw pw phase high = phase
naive Triangle pw phase high = triangle_at two32 two32 pw phase high
naive Slope pw phase high = triangle_at (one32 ⊘ pw) (one32 ⊘ (one32 ⊖ pw)) pw phase high
naive Square pw phase high = square_at pw phase
naive SquareBright pw phase high = square_at pw phase
naive SquareDark pw phase high = square_at pw phase
naive SquareTriangle pw phase high = square_at pw phase

-- The end of a sample, and line 232 for what the next one starts with. The source stores frequency and width as it drops their interpolators, and what it stores is the last step.
unfoldable pub finish : OscillatorShape → State → Float → Float → ℕ → Edge → Sample State
finish shape s frequency step cycles e =
    let o = output_of shape s frequency e.this_sample in
    record {
      sample = o.sample;
      state = record {
        phase = e.phase;
        next_sample = e.next_sample ⊕ naive shape (width_of shape step) e.phase e.high;
        lp_state = o.lp_state;
        hp_state = o.hp_state;
        high = e.high;
        frequency = frequency;
        pw = kept_width shape step s.pw;
        impulse_train_lp_coeff = s.impulse_train_lp_coeff;
        impulse_train_gain = s.impulse_train_gain;
      };
      counts = counts_of cycles e.crossings 0;
    }

-- lines 91, 92 and 111: this sample starts with what the last one left for it, and the phase moves on; a cycle is counted where it comes to 1. Then by shape.
unfoldable pub sample_of : OscillatorShape → State → Float → Float → Sample State
sample_of shape s frequency step =
    let start = start_of (s.phase ⊕ frequency) s.high s.next_sample in
    finish shape s frequency step (one_if (le one32 start.phase)) (edges_of shape frequency (width_of shape step) start)

-- for a block: the steps are frequency and, where it is stepped, width, and what the buffer held is overwritten
abbrev pub sample_at : OscillatorShape → State → List Float → Float → Sample State
sample_at shape s steps x =
    let t = sample_of shape s (slice_index_or steps 0 zero32) (slice_index_or steps 1 zero32) in
    record { state = t.state; sample = t.sample; counts = t.counts }
