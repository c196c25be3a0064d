-- One sample of the string synth: string_synth_oscillator.rs, lines 107 to 150, in its order. Assumes nothing.
use Rattle.std.specs.Prelude.{ℕ, ◌-◌, Bool, cond, List, pos, ◌==◌, bit_and, slice_index_or, Float}
use Rattle.std.specs.Float.Ieee.{ne}
use Rattle.floats.specs.F32.{whole32, ◌⊕◌, ◌⊖◌, ◌⊗◌, ◌⊘◌, f32, zero32, half32, one32, two32, four32, eight32}
use Rattle.polyblep.specs.Polyblep.{this_blep_sample, next_blep_sample}
use Rattle.whole_part.specs.WholePart.{whole_part, is_whole}
use Rattle.block.specs.Counting.{one_if}
use Rattle.block.specs.declared.sample.Sample.{Sample}
use Rattle.string_synth.specs.declared.State.{State}
use Rattle.string_synth.specs.declared.sample.Saws.{Saws}
use Rattle.string_synth.specs.declared.sample.Reached.{Reached}

-- a gain taken off where its saw falls, lines 120 to 130
abbrev pub less_if : Bool → Float → Float → Float
less_if falls discontinuity gain = cond falls (discontinuity ⊖ gain) discontinuity

-- lines 119 to 131: saw 8' falls at a wrap, saw 4' where `segment & 3` is 0, saw 2' where `segment & 1` is, and saw 1' at each segment
unfoldable pub discontinuity_of : Bool → ℕ → Saws → Float
discontinuity_of wraps segment saws =
    let of8 = less_if wraps zero32 saws.saw_8_gain in
    let of4 = less_if (bit_and segment 3 == 0) of8 saws.saw_4_gain in
    let of2 = less_if (bit_and segment 1 == 0) of4 saws.saw_2_gain in
    of2 ⊖ saws.saw_1_gain

-- a cycle is 8 units of phase, lines 120 and 121
abbrev pub wrap_phase : Float → Bool → Float
wrap_phase phase wraps = cond wraps (phase ⊖ eight32) phase

-- and eight segments, lines 120 and 122
abbrev pub wrap_segment : ℕ → ℕ
wrap_segment whole = cond (whole == 8) (whole - 8) whole

-- lines 133 to 136
unfoldable pub blep_of : Reached → Float → Float → Reached
blep_of e discontinuity frequency =
    let fraction = e.phase ⊖ whole32 e.segment in
    let t = fraction ⊘ frequency in
    record {
      phase = e.phase;
      segment = e.segment;
      this_sample = e.this_sample ⊕ this_blep_sample t ⊗ discontinuity;
      next_sample = e.next_sample ⊕ next_blep_sample t ⊗ discontinuity;
      cycles = e.cycles;
      rises = e.rises;
    }

-- line 132
unfoldable pub softened : Reached → Float → Float → Reached
softened e discontinuity frequency = cond (ne discontinuity zero32) (blep_of e discontinuity frequency) e

-- within a segment, lines 107, 108 and 139: this sample starts with what the last one left for it, and the next from 0
abbrev pub stayed : State → Float → ℕ → Reached
stayed s phase whole = record {
  phase = phase;
  segment = whole;
  this_sample = s.next_sample;
  next_sample = zero32;
  cycles = 0;
  rises = 0;
}

-- Into another segment, lines 107, 108 and 120 to 122. 01 counts a rise for each new whole part, taken before any wrap, and a cycle for
-- each wrap.
abbrev pub entered : State → Float → ℕ → Reached
entered s phase whole = record {
  phase = wrap_phase phase (whole == 8);
  segment = wrap_segment whole;
  this_sample = s.next_sample;
  next_sample = zero32;
  cycles = one_if (whole == 8);
  rises = 1;
}

-- and there the saws fall, lines 119 to 138
unfoldable pub crossed : State → Saws → Float → ℕ → Reached
crossed s saws phase whole = softened (entered s phase whole) (discontinuity_of (whole == 8) (wrap_segment whole) saws) saws.frequency

-- lines 107 to 139
unfoldable pub reached_of : State → Saws → Reached
reached_of s saws =
    let phase' = s.phase ⊕ saws.frequency in
    let whole = whole_part phase' in
    cond (is_whole whole s.segment) (stayed s phase' whole) (crossed s saws phase' whole)

-- what the next sample starts with, lines 141 to 144, with 0.125 and 0.25
unfoldable pub next_sample : Reached → Saws → Float
next_sample e saws =
    let of8 = e.next_sample ⊕ (e.phase ⊖ four32) ⊗ saws.saw_8_gain ⊗ f32 0x3e00_0000 in
    let of4 = of8 ⊕ (e.phase ⊖ whole32 (bit_and e.segment 4) ⊖ two32) ⊗ saws.saw_4_gain ⊗ f32 0x3e80_0000 in
    let of2 = of4 ⊕ (e.phase ⊖ whole32 (bit_and e.segment 6) ⊖ one32) ⊗ saws.saw_2_gain ⊗ half32 in
    of2 ⊕ (e.phase ⊖ whole32 (bit_and e.segment 7) ⊖ half32) ⊗ saws.saw_1_gain

-- The end of a sample, lines 141 to 150: it is added to what the buffer held. The source stores the frequency and the gains as it drops
-- their interpolators, and what it stores is the last step.
unfoldable pub finish : Reached → Saws → Float → Sample State
finish e saws held = record {
  state = record {
    phase = e.phase;
    next_sample = next_sample e saws;
    segment = pos e.segment;
    frequency = saws.frequency;
    saw_8_gain = saws.saw_8_gain;
    saw_4_gain = saws.saw_4_gain;
    saw_2_gain = saws.saw_2_gain;
    saw_1_gain = saws.saw_1_gain;
  };
  sample = held ⊕ two32 ⊗ e.this_sample;
  counts = record { cycles = e.cycles; rises = e.rises; falls = 0; cuts = 0; late_rises = 0; late_falls = 0 };
}

-- one sample, lines 107 to 150
unfoldable pub sample_of : State → Saws → Float → Sample State
sample_of s saws held = finish (reached_of s saws) saws held

-- a sample's steps, by name: lines 110 to 114
abbrev pub saws_of : List Float → Saws
saws_of steps = record {
  frequency = slice_index_or steps 0 zero32;
  saw_8_gain = slice_index_or steps 1 zero32;
  saw_4_gain = slice_index_or steps 2 zero32;
  saw_2_gain = slice_index_or steps 3 zero32;
  saw_1_gain = slice_index_or steps 4 zero32;
}

-- for a block
abbrev pub sample_at : State → List Float → Float → Sample State
sample_at s steps x =
    let t = sample_of s (saws_of steps) x in
    record { state = t.state; sample = t.sample; counts = t.counts }
