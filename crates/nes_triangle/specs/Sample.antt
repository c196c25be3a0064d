-- One sample of the NES triangle: nes_triangle_oscillator.rs, lines 54 to 140, in its order. A new step is a whole part, and so a whole number from
-- 0 up, and no difference of steps goes below 0: a wrap has come to the number of steps, and a step is at most the top. Assumes nothing.
use Rattle.std.specs.Prelude.{ℕ, ◌-◌, Bool, cond, not, ◌&&◌, ◌||◌, List, pos, ◌==◌, nat_le, nat_lt, slice_index_or, Float}
use Rattle.std.specs.Float.Ieee.{lt, le, ne, neg}
use Rattle.floats.specs.F32.{whole32, ◌⊕◌, ◌⊖◌, ◌⊗◌, ◌⊘◌, zero32, half32, one32, two32, four32}
use Rattle.floats.specs.Helpers.{clamp_of}
use Rattle.polyblep.specs.Polyblep.{this_blep_sample, next_blep_sample, this_integrated_blep_sample, next_integrated_blep_sample}
use Rattle.whole_part.specs.WholePart.{whole_part, is_whole}
use Rattle.block.specs.Counting.{one_if}
use Rattle.block.specs.declared.sample.Sample.{Sample}
use Rattle.nes_triangle.specs.declared.State.{State}
use Rattle.nes_triangle.specs.declared.depth.Depth.{Depth}
use Rattle.nes_triangle.specs.declared.sample.Stepped.{Stepped}
use Rattle.nes_triangle.specs.declared.sample.Gains.{Gains}
use Rattle.nes_triangle.specs.declared.sample.Samples.{Samples}
use Rattle.nes_triangle.specs.Depth.{depth_of}

-- line 84
abbrev pub wrap_phase : Float → Bool → Float
wrap_phase phase wrap = cond wrap (phase ⊖ one32) phase

-- line 85
abbrev pub wrap_step : ℕ → ℕ → Bool → ℕ
wrap_step nextStep numSteps wrap = cond wrap (nextStep - numSteps) nextStep

-- lines 55 and 78 to 87: the step is taken, and the phase wraps where the whole part has changed and come to the number of steps
unfoldable pub stepped_of : Depth → State → Float → Stepped
stepped_of d s frequency =
    let reached = s.phase ⊕ frequency in
    let nextStep = whole_part (reached ⊗ d.num_steps_f) in
    let changed = not (is_whole nextStep s.step) in
    let wrap = changed && nat_le d.num_steps nextStep in
    record {
      reached = reached;
      phase = wrap_phase reached wrap;
      next_step = wrap_step nextStep d.num_steps wrap;
      changed = changed;
      wrap = wrap;
    }

-- lines 59 to 62
unfoldable pub gains_of : Depth → Float → Gains
gains_of d frequency =
    let fadeToTri = clamp_of ((frequency ⊖ half32 ⊘ d.num_steps_f) ⊗ two32 ⊗ d.num_steps_f) zero32 one32 in
    record { nes_gain = one32 ⊖ fadeToTri; tri_gain = fadeToTri ⊗ two32 ⊘ d.scale }

-- lines 64 and 65: this sample starts with what the last one left for it
abbrev pub start_of : State → Samples
start_of s = record { this_sample = s.next_sample; next_sample = zero32 }

-- the top of the naive triangle, lines 68 to 74
unfoldable pub peak_of : Bool → Float → Float → Float → Samples → Samples
peak_of here phase frequency discontinuity x =
    let t = (phase ⊖ half32) ⊘ frequency in
    cond (here && ne discontinuity zero32)
    (record {
      this_sample = x.this_sample ⊖ this_integrated_blep_sample t ⊗ discontinuity;
      next_sample = x.next_sample ⊖ next_integrated_blep_sample t ⊗ discontinuity;
    })
    x

-- line 89
abbrev pub direction_of : ℕ → ℕ → Float
direction_of nextStep half = cond (nat_lt nextStep half) one32 (neg one32)

-- lines 89 to 95
abbrev pub step_sign : ℕ → ℕ → ℕ → Float
step_sign numSteps half nextStep =
    let discontinuity = direction_of nextStep half in
    cond (numSteps == 2) (neg discontinuity)
    (cond (nextStep == 0 || nextStep == half) zero32 discontinuity)

-- a step of the NES triangle, lines 100 to 105
unfoldable pub edge_of : Stepped → Float → Float → Float → Samples → Samples
edge_of w numStepsF frequency discontinuity x =
    let frac = w.phase ⊗ numStepsF ⊖ whole32 w.next_step in
    let t = frac ⊘ (frequency ⊗ numStepsF) in
    cond (w.changed && ne discontinuity zero32)
    (record {
      this_sample = x.this_sample ⊕ this_blep_sample t ⊗ discontinuity;
      next_sample = x.next_sample ⊕ next_blep_sample t ⊗ discontinuity;
    })
    x

-- the bottom of the naive triangle, lines 108 to 114
unfoldable pub trough_of : Bool → Float → Float → Float → Samples → Samples
trough_of here phase frequency discontinuity x =
    let t = phase ⊘ frequency in
    cond (here && ne discontinuity zero32)
    (record {
      this_sample = x.this_sample ⊕ this_integrated_blep_sample t ⊗ discontinuity;
      next_sample = x.next_sample ⊕ next_integrated_blep_sample t ⊗ discontinuity;
    })
    x

-- lines 64 to 117 but for what the turn does: the peak is met before the wrap, the step and the trough after it
unfoldable pub sound_of : Depth → State → Stepped → Gains → Float → Samples
sound_of d s t g frequency =
    let corner = four32 ⊗ frequency ⊗ g.tri_gain in
    let peaked = s.ascending && le half32 t.reached in
    let discontinuity = step_sign d.num_steps d.half t.next_step ⊗ g.nes_gain in
    trough_of t.wrap t.phase frequency corner
    (edge_of t d.num_steps_f frequency discontinuity
    (peak_of peaked t.reached frequency corner (start_of s)))

-- lines 123 to 127
abbrev pub nes_level : ℕ → ℕ → ℕ → ℕ
nes_level step half top = cond (nat_lt step half) step (top - step)

-- lines 131 to 135
abbrev pub tri_level : Float → Float
tri_level phase = cond (lt phase half32) (two32 ⊗ phase) (two32 ⊖ two32 ⊗ phase)

-- Lines 119 to 140: line 140 stores what the next sample starts with. The triangle ascends again from a wrap on (line 115), and no longer from
-- its top on (line 75). The source stores the frequency as it drops its interpolator, and what it stores is the last step. 01 counts a wrap as
-- a cycle, and a rise where the whole part, taken before any wrap, differs from the old step.
unfoldable pub finish : Depth → State → Stepped → Gains → Samples → Float → Sample State
finish d s t g x frequency = record {
  state = record {
    phase = t.phase;
    next_sample = x.next_sample ⊕ g.nes_gain ⊗ whole32 (nes_level t.next_step d.half d.top) ⊕ g.tri_gain ⊗ tri_level t.phase;
    step = pos t.next_step;
    ascending = t.wrap || (s.ascending && not (le half32 t.reached));
    frequency = frequency;
  };
  sample = x.this_sample ⊗ d.scale ⊖ one32;
  counts = record { cycles = one_if t.wrap; rises = one_if t.changed; falls = 0; cuts = 0; late_rises = 0; late_falls = 0 };
}

-- one sample, lines 54 to 140
unfoldable pub sample_of : Depth → State → Float → Sample State
sample_of d s frequency =
    let t = stepped_of d s frequency in
    let g = gains_of d frequency in
    finish d s t g (sound_of d s t g frequency) frequency

-- for a block: the one step is the frequency, and what the buffer held is overwritten
abbrev pub sample_at : ℕ → State → List Float → Float → Sample State
sample_at bits s steps x =
    let t = sample_of (depth_of bits) s (slice_index_or steps 0 zero32) in
    record { state = t.state; sample = t.sample; counts = t.counts }
