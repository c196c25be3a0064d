-- One sample of the variable saw: variable_saw_oscillator.rs, lines 63 to 110, in its order. Assumes nothing.
use Rattle.std.specs.Prelude.{not, ◌&&◌, cond, List, ℕ, get_or, Float}
use Rattle.std.specs.Float.Ieee.{lt, le}
use Rattle.floats.specs.F32.{◌⊕◌, ◌⊖◌, ◌⊗◌, ◌⊘◌, f32, zero32, one32, two32}
use Rattle.polyblep.specs.Polyblep.{this_blep_sample, next_blep_sample, this_integrated_blep_sample, next_integrated_blep_sample}
use Rattle.edges.specs.declared.Edge.{Edge}
use Rattle.edges.specs.Triangle.{triangle, triangle_step, rise_time}
use Rattle.edges.specs.Counted.{start_of, risen_of, wrapped_of, counts_of}
use Rattle.block.specs.declared.sample.Sample.{Sample}
use Rattle.variable_saw.specs.declared.State.{State}
use Rattle.variable_saw.specs.declared.sample.Wave.{Wave}

-- 0.2, the source's VARIABLE_SAW_NOTCH_DEPTH, line 11
abbrev pub notch_depth : Float
notch_depth = f32 0x3e4c_cccd

-- what the steps of pulse width and waveshape make of the waveform, lines 69 to 72
abbrev pub wave_of : Float → Float → Wave
wave_of pw waveshape = record {
  pw = pw;
  slope_up = one32 ⊘ pw;
  slope_down = one32 ⊘ (one32 ⊖ pw);
  triangle_amount = waveshape;
  notch_amount = one32 ⊖ waveshape;
}

-- a saw that stops at the width, lines 123 to 127
abbrev pub notch_saw : Float → Float → Float
notch_saw phase pw = cond (lt phase pw) phase (one32 ⊕ notch_depth)

-- compute_naive_sample, lines 123 to 134: that saw and the triangle, mixed
unfoldable pub naive : Float → Wave → Float
naive phase w =
    notch_saw phase w.pw ⊗ w.notch_amount
    ⊕ triangle phase w.pw w.slope_up w.slope_down ⊗ w.triangle_amount

-- up through the width, lines 77 to 84. The phase may have passed 1 too: it then stays there until the next sample.
unfoldable pub rise_of : Wave → Float → Float → Edge → Edge
rise_of w frequency previousPw e =
    let step = triangle_step w.slope_up w.slope_down frequency w.triangle_amount in
    let notch = (notch_depth ⊕ one32 ⊖ w.pw) ⊗ w.notch_amount in
    let t = rise_time e.phase w.pw previousPw frequency in
    risen_of t
    (e.this_sample ⊕ notch ⊗ this_blep_sample t ⊖ step ⊗ this_integrated_blep_sample t)
    (e.next_sample ⊕ notch ⊗ next_blep_sample t ⊖ step ⊗ next_integrated_blep_sample t)
    e

-- down through 1, where the phase wraps, lines 86 to 94. 01 counts a fall where `high` turns false, and so only where it was true.
unfoldable pub wrap_of : Wave → Float → Edge → Edge
wrap_of w frequency e =
    let phase' = e.phase ⊖ one32 in
    let step = triangle_step w.slope_up w.slope_down frequency w.triangle_amount in
    let notch = (notch_depth ⊕ one32) ⊗ w.notch_amount in
    let t = phase' ⊘ frequency in
    wrapped_of phase' t
    (e.this_sample ⊖ notch ⊗ this_blep_sample t ⊕ step ⊗ this_integrated_blep_sample t)
    (e.next_sample ⊖ notch ⊗ next_blep_sample t ⊕ step ⊗ next_integrated_blep_sample t)
    e

-- the step, lines 63, 64 and 74: this sample starts with what the last one left for it
abbrev pub edge_of : State → Float → Edge
edge_of s frequency = start_of (s.phase ⊕ frequency) s.high s.next_sample

-- The end of a sample, lines 97 to 107, and 110 for what the next one starts with. The source stores frequency, width and waveshape as it drops their interpolators, and what it
-- stores is the last step.
unfoldable pub finish : Wave → Float → ℕ → Edge → Sample State
finish w frequency cycles e = record {
  state = record {
    phase = e.phase;
    next_sample = e.next_sample ⊕ naive e.phase w;
    previous_pw = w.pw;
    high = e.high;
    frequency = frequency;
    pw = w.pw;
    waveshape = w.triangle_amount;
  };
  sample = (two32 ⊗ e.this_sample ⊖ one32) ⊘ (one32 ⊕ notch_depth);
  counts = counts_of cycles e.crossings 0;
}

-- the two tests, lines 76 and 85: a rise or else a wrap, never both
unfoldable pub sample_of : State → Float → Float → Float → Sample State
sample_of s frequency pw waveshape =
    let w = wave_of pw waveshape in
    let e = edge_of s frequency in
    cond (not e.high && le pw e.phase) (finish w frequency 0 (rise_of w frequency s.previous_pw e))
    (cond (le one32 e.phase) (finish w frequency 1 (wrap_of w frequency e))
    (finish w frequency 0 e))

-- for a block: the steps are frequency, width and waveshape, and what the buffer held is overwritten
abbrev pub sample_at : State → List Float → Float → Sample State
sample_at s steps x =
    let t = sample_of s (get_or steps 0 zero32) (get_or steps 1 zero32) (get_or steps 2 zero32) in
    record { state = t.state; sample = t.sample; counts = t.counts }
