-- A sample keeps the phase within its reach, below 1 while low and at most 81/64 while high, and counts at most one cycle, one rise and one fall, and
-- no cut. Assumes nothing.
use mathlib.Core.Path.{◌≡◌, refl}
use mathlib.Core.Bool.{Bool, true, false, not, ◌&&◌, cond}
use mathlib.Core.List.{List, [], ◌∷◌}
use Prim.Native.Nat.{ℕ, ◌+◌, ◌*◌, ◌≤◌}
use native.Mathlib.Omega.{arith}
use borrow.Author.Tests.{not-true}
use lib.ListN.{get_or}
use lib.Ieee.{Float, le}
use Rattle.floats.specs.F32.{◌⊕◌, zero32, one32}
use Rattle.floats.proofs.Ticks.{tick, cycle, one_at, tick_pos, Sum}
use Rattle.floats.proofs.PhaseSteps.{Step, wraps_at_1, saw_wraps_at_1, phase_sum, phase_wraps, phase_stays}
use Rattle.floats.proofs.Ranges.{Positive, passed_le, failed_le}
use Rattle.ranges.specs.Ranges.{unit_in, waveshape_in}
use Rattle.block.specs.Limits.{Balanced}
use Rattle.rooms.specs.Steps.{all_in}
use Rattle.floats.proofs.Bools.{and_both}
use Rattle.block.specs.Fit.{Inside}
use Rattle.block.specs.Counting.{one_if, all_rises, all_falls}
use Rattle.edges.specs.Counted.{one_more_if}
use Rattle.block.proofs.Plays.{one_most, Keeps}
use Rattle.rooms.proofs.RangeLaws.{frequency_step, step_frequency, width_unit}
use Rattle.edges.specs.declared.Edge.{Edge}
use Rattle.variable_saw.specs.declared.State.{State}
use Rattle.variable_saw.specs.declared.sample.Wave.{Wave}
use Rattle.block.specs.declared.sample.Sample.{Sample}
use Rattle.variable_saw.specs.Sample.{wave_of, rise_of, wrap_of, edge_of, finish, sample_of, sample_at}
use Rattle.variable_saw.specs.Block.{rooms}
use Rattle.variable_saw.specs.Private.{reach, Valid}

-- the state is valid, the frequency's step lies above 0 and is at most 17/64, and the others' lie in the state's ranges
pub record Ready (s : State) (frequency pw waveshape : Float) : Type 0 where
  pub valid : Valid s
  pub step : Positive frequency (4456448 * tick)
  pub width : unit_in pw ≡ true
  pub shape : waveshape_in waveshape ≡ true

-- what the state keeps of the sample's steps
pub record Stored (frequency pw waveshape : Float) (s : State) : Type 0 where
  pub previous_pw : s.previous_pw ≡ pw
  pub frequency_is : s.frequency ≡ frequency
  pub pw_is : s.pw ≡ pw
  pub waveshape_is : s.waveshape ≡ waveshape

-- what one sample does to a phase of a units with a step of b, and to all else
pub record Law (s : State) (frequency pw waveshape : Float) (a b : ℕ) (t : Sample State) : Type 0 where
  pub phase : Step t.state.phase t.counts.cycles a b cycle tick (reach t.state.high)
  pub stored : Stored frequency pw waveshape t.state
  pub rises : all_rises t.counts ≤ 1
  pub falls : all_falls t.counts ≤ 1
  pub cuts : t.counts.cuts ≡ 0
  pub balance : Balanced s.high t.counts t.state.high

-- what a wrap counts: a fall where the phase was high, and none of them late
one_fall : (high : Bool) → one_more_if (high && true) 0 + one_more_if (high && false) 0 ≡ one_if high
one_fall true = refl
one_fall false = refl

reach_least : (high : Bool) → cycle ≤ reach high
reach_least true = omega (arith, tick_pos)
reach_least false = omega arith

reach_most : (high : Bool) → reach high ≤ 21233664 * tick + 1
reach_most true = omega arith
reach_most false = omega (arith, tick_pos)

module _ (s : State) (frequency pw waveshape : Float) (h : Ready s frequency pw waveshape) where
  -- while low the sum is at most 81/64, and else at most 98/64: both are below 2, where a wrap is exact
  sum_low : s.high ≡ false → Sum (s.phase ⊕ frequency) h.valid.phase.n h.step.n (21233664 * tick) tick
  sum_low l = phase_sum wraps_at_1 h.valid.phase.at h.step.at (omega (arith, rw l at h.valid.phase.under, h.step.most))

  sum : Sum (s.phase ⊕ frequency) h.valid.phase.n h.step.n (25690112 * tick) tick
  sum = phase_sum saw_wraps_at_1 h.valid.phase.at h.step.at (omega (arith, h.valid.phase.under, reach_most s.high, h.step.most))

  abbrev w : Wave
  w = wave_of pw waveshape

  abbrev e : Edge
  e = edge_of s frequency

  abbrev rose : Edge
  rose = rise_of w frequency s.previous_pw e

  abbrev Meets : Sample State → Type 0
  Meets t = Law s frequency pw waveshape h.valid.phase.n h.step.n t

  stored : (cycles : ℕ) (a : Edge) → Stored frequency pw waveshape (finish w frequency cycles a).state
  unfolding finish
  stored cycles a = record { previous_pw = refl; frequency_is = refl; pw_is = refl; waveshape_is = refl }

  -- a rise leaves the phase where it is, so that it may be above 1
  rise_law : s.high ≡ false → Meets (finish w frequency 0 rose)
  unfolding finish rise_of
  rise_law l = record {
    phase = phase_stays wraps_at_1 (sum_low l) (omega (arith, (sum_low l).top));
    stored = stored 0 rose;
    rises = omega arith;
    falls = omega arith;
    cuts = refl;
    balance = rw l;
  }

  -- a wrap leaves it below 1, and low
  wrap_law : le one32 (s.phase ⊕ frequency) ≡ true → Meets (finish w frequency 1 (wrap_of w frequency e))
  unfolding finish wrap_of
  wrap_law l = record {
    phase = phase_wraps saw_wraps_at_1 sum (passed_le one_at sum.at l);
    stored = stored 1 (wrap_of w frequency e);
    rises = omega arith;
    falls = rw (one_fall s.high) (one_most s.high);
    cuts = refl;
    balance = rw (one_fall s.high) (omega arith);
  }

  -- without either it has not come to 1, on whichever side
  stay_law : le one32 (s.phase ⊕ frequency) ≡ false → Meets (finish w frequency 0 e)
  unfolding finish
  stay_law l = record {
    phase = phase_stays saw_wraps_at_1 sum (omega (arith, failed_le one_at sum.at l, reach_least s.high));
    stored = stored 0 e;
    rises = omega arith;
    falls = omega arith;
    cuts = refl;
    balance = refl;
  }

  pub sample_law : Meets (sample_of s frequency pw waveshape)
  unfolding sample_of
  sample_law = go (not s.high && le pw (s.phase ⊕ frequency)) (le one32 (s.phase ⊕ frequency)) refl refl
    where
      go : (r o : Bool) → (not s.high && le pw (s.phase ⊕ frequency)) ≡ r → le one32 (s.phase ⊕ frequency) ≡ o
          → Meets (cond r (finish w frequency 0 rose) (cond o (finish w frequency 1 (wrap_of w frequency e)) (finish w frequency 0 e)))
      go true o t l = rise_law (not-true _ (and_both _ _ t).0)
      go false true t l = wrap_law l
      go false false t l = stay_law l

-- the steps of a sample that passed the walk
pub ready_of : (s : State) (frequency pw waveshape : Float) → Valid s → Inside rooms (frequency ∷ pw ∷ waveshape ∷ []) → Ready s frequency pw waveshape
unfolding all_in
ready_of s f p w v i =
    let r = and_both _ _ i.rooms in
    let q = and_both _ _ r.1 in
    record { valid = v; step = frequency_step i.fit.0 r.0; width = width_unit p q.0; shape = (and_both _ _ q.1).0 }

-- a sample's law, for the steps as a list
pub law_of : (s : State) (steps : List Float) → Valid s → Inside rooms steps
    → (h : Ready s (get_or steps 0 zero32) (get_or steps 1 zero32) (get_or steps 2 zero32))
    × Law s (get_or steps 0 zero32) (get_or steps 1 zero32) (get_or steps 2 zero32) h.valid.phase.n h.step.n (sample_of s (get_or steps 0 zero32) (get_or steps 1 zero32) (get_or steps 2 zero32))
law_of s [] v i = absurd (omega (arith, i.long))
law_of s (f ∷ []) v i = absurd (omega (arith, i.long))
law_of s (f ∷ p ∷ []) v i = absurd (omega (arith, i.long))
law_of s (f ∷ p ∷ w ∷ []) v i = let h = ready_of s f p w v i in (h, sample_law s f p w h)
law_of s (f ∷ p ∷ w ∷ g ∷ rest) v i = absurd (omega (arith, i.long))

pub keeps : Keeps sample_at rooms Valid
keeps s steps x v i =
    let r = law_of s steps v i in
    let l = r.1 in
    record {
      ok = record {
        phase = record { n = l.phase.n; at = l.phase.at; under = l.phase.stays };
        previous_pw = rw l.stored.previous_pw r.0.width;
        frequency = rw l.stored.frequency_is (step_frequency r.0.step);
        pw = rw l.stored.pw_is r.0.width;
        waveshape = rw l.stored.waveshape_is r.0.shape;
      };
      few = record { cycles = l.phase.once; rises = omega (arith, l.rises); falls = l.falls; cuts = omega (arith, l.cuts) };
    }
