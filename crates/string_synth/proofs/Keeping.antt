-- A sample keeps the phase at least 0 and below 8 and the segment one of the eight, and counts at most one cycle and one rise. Assumes nothing.
use Rattle.std.proofs.Common.{◌≡◌, ℕ, ◌-◌, ◌*◌, ◌<◌, ◌≤◌, Bool, true, false, cond, eqb, List, [], ◌∷◌, sym, refl, ◌∙◌, arith, ne_eqb, eqb-true, leb-false}
use borrow.Author.Tests.{eqb-false}
use lib.Ieee.{Float, lt, le}
use Rattle.floats.specs.F32.{◌⊕◌, zero32, top_string_step}
use Rattle.floats.proofs.Ticks.{tick, cycle, tick_pos, top_string_step_at, Sum}
use Rattle.floats.proofs.PhaseSteps.{Step, wraps_at_8, phase_sum, phase_stays, phase_by}
use Rattle.floats.proofs.Ranges.{Positive, positive_of, positive_le, at_least_0}
use Rattle.whole_part.specs.WholePart.{whole_part, is_whole}
use Rattle.rooms.specs.declared.Room.TheVariants.{StringFrequency, ModulationOrGain}
use Rattle.ranges.specs.Ranges.{modulation_or_gain_in}
use Rattle.rooms.specs.Rooms.{in_room}
use Rattle.rooms.specs.Steps.{all_in}
use Rattle.floats.proofs.Bools.{and_both}
use Rattle.ranges.proofs.AllOf.{of_each}
use Rattle.block.specs.Fit.{Inside}
use Rattle.block.proofs.Plays.{Keeps}
use Rattle.string_synth.specs.declared.State.{State}
use Rattle.string_synth.specs.declared.sample.Saws.{Saws}
use Rattle.string_synth.specs.declared.sample.Reached.{Reached}
use Rattle.string_synth.specs.Sample.{stayed, crossed, reached_of, finish, sample_of, saws_of, sample_at}
use Rattle.string_synth.specs.Block.{gains_in, rooms}
use Rattle.string_synth.specs.Private.{Valid}
use Rattle.string_synth.proofs.Segments.{crossed_placed, Whole, whole_law}

-- a valid state, and a step that lies above 0 and is at most 17/32
pub record Ready (s : State) (frequency : Float) : Type 0 where
  pub valid : Valid s
  pub step : Positive frequency (8912896 * tick)

-- what a step of b units does to a phase of a
pub record Law (a b : ℕ) (e : Reached) : Type 0 where
  pub phase : Step e.phase e.cycles a b (8 * cycle) (8 * tick) (8 * cycle)
  pub below : e.segment < 8
  pub rises : e.rises ≤ 1

wrap_segment_below : (k : ℕ) (o : Bool) → k ≤ 8 → eqb k 8 ≡ o → cond o (k - 8) k < 8
wrap_segment_below k true m e = omega (arith, eqb-true k 8 e)
wrap_segment_below k false m e = omega (arith, eqb-false k 8 e)

module _ (s : State) (saws : Saws) (h : Ready s saws.frequency) where
  abbrev reached : Float
  reached = s.phase ⊕ saws.frequency

  sum : Sum reached h.valid.phase.n h.step.n (143130624 * tick) (8 * tick)
  sum = phase_sum wraps_at_8 h.valid.phase.at h.step.at (omega (arith, h.valid.phase.under, h.step.most))

  whole : Whole sum.n (whole_part reached)
  whole = whole_law sum.at (omega (arith, sum.top, tick_pos))

  -- within a segment there is no wrap, since no segment is 8
  stay_law : is_whole (whole_part reached) s.segment ≡ true → Law h.valid.phase.n h.step.n (stayed s reached (whole_part reached))
  stay_law l =
      let k : whole_part reached ≡ h.valid.k = eqb-true (whole_part reached) h.valid.k (rw h.valid.segment at l) in
      let under : whole_part reached < 8 = omega (arith, k, h.valid.below) in
      record { phase = phase_stays wraps_at_8 sum (leb-false (8 * cycle) sum.n (sym whole.eight ∙ ne_eqb (whole_part reached) 8 (λ e. omega (arith, under, e)))); below = under; rises = omega arith }

  cross_law : Law h.valid.phase.n h.step.n (crossed s saws reached (whole_part reached))
  cross_law =
      let p = crossed_placed s saws reached (whole_part reached) in
      record {
        phase = rw (p.phase, p.cycles) (phase_by wraps_at_8 sum (eqb (whole_part reached) 8) whole.eight);
        below = rw p.segment (wrap_segment_below (whole_part reached) (eqb (whole_part reached) 8) whole.most refl);
        rises = omega (arith, p.rises);
      }

  pub reach_law : Law h.valid.phase.n h.step.n (reached_of s saws)
  unfolding reached_of
  reach_law = go (is_whole (whole_part reached) s.segment) refl
    where
      go : (o : Bool) → is_whole (whole_part reached) s.segment ≡ o → Law h.valid.phase.n h.step.n (cond o (stayed s reached (whole_part reached)) (crossed s saws reached (whole_part reached)))
      go true l = stay_law l
      go false l = cross_law

-- the steps of a sample that passed the walk
pub record Stepped (s : State) (saws : Saws) : Type 0 where
  pub ready : Ready s saws.frequency
  pub gains : gains_in saws.saw_8_gain saws.saw_4_gain saws.saw_2_gain saws.saw_1_gain ≡ true

pub stepped_of_lem : (s : State) (steps : List Float) → Valid s → Inside rooms steps → Stepped s (saws_of steps)
unfolding all_in gains_in
stepped_of_lem s (f ∷ a ∷ b ∷ c ∷ d ∷ []) v i =
    let p = and_both (in_room StringFrequency f) (all_in (ModulationOrGain ∷ ModulationOrGain ∷ ModulationOrGain ∷ ModulationOrGain ∷ []) (a ∷ b ∷ c ∷ d ∷ [])) i.rooms in
    let q = and_both (lt zero32 f) (le f top_string_step) p.0 in
    let a' = and_both (modulation_or_gain_in a) (all_in (ModulationOrGain ∷ ModulationOrGain ∷ ModulationOrGain ∷ []) (b ∷ c ∷ d ∷ [])) p.1 in
    let b' = and_both (modulation_or_gain_in b) (all_in (ModulationOrGain ∷ ModulationOrGain ∷ []) (c ∷ d ∷ [])) a'.1 in
    let c' = and_both (modulation_or_gain_in c) (all_in (ModulationOrGain ∷ []) (d ∷ [])) b'.1 in
    let d' = and_both (modulation_or_gain_in d) true c'.1 in
    record { ready = record { valid = v; step = positive_of i.fit.0 q.0 q.1 top_string_step_at }; gains = of_each _ (a'.0, (b'.0, (c'.0, (d'.0, tt)))) }
stepped_of_lem s [] v i = absurd (omega (arith, i.long))
stepped_of_lem s (f ∷ []) v i = absurd (omega (arith, i.long))
stepped_of_lem s (f ∷ a ∷ []) v i = absurd (omega (arith, i.long))
stepped_of_lem s (f ∷ a ∷ b ∷ []) v i = absurd (omega (arith, i.long))
stepped_of_lem s (f ∷ a ∷ b ∷ c ∷ []) v i = absurd (omega (arith, i.long))
stepped_of_lem s (f ∷ a ∷ b ∷ c ∷ d ∷ e ∷ rest) v i = absurd (omega (arith, i.long))

pub keeps : Keeps sample_at rooms Valid
unfolding sample_of finish
keeps s steps x v i =
    let r = stepped_of_lem s steps v i in
    let l = reach_law s (saws_of steps) r.ready in
    record {
      ok = record {
        phase = record { n = l.phase.n; at = l.phase.at; under = l.phase.stays };
        k = (reached_of s (saws_of steps)).segment;
        segment = refl;
        below = l.below;
        frequency = rw (at_least_0 r.ready.step.at, positive_le top_string_step_at r.ready.step);
        gains = r.gains;
      };
      few = record { cycles = l.phase.once; rises = omega (arith, l.rises); falls = omega arith; cuts = omega arith };
    }
