-- A sample's phase and step. The product by the number of steps is exact, so that its whole part comes to that number exactly where the phase
-- has come to 1; and a step that is below it then differs from the whole part, so that every such phase wraps. Assumes nothing.
use Rattle.std.proofs.Common.{◌≡◌, ℕ, ◌*◌, ◌/◌, ◌^◌, ◌<◌, ◌≤◌, Bool, true, false, not, ◌&&◌, eqb, leb, ℤ, pos, sym, refl, ap, ◌∙◌, subst, le_trans, lt_of_lt_of_le, mul-le-mul_right, mul_assoc, mul_comm, div-lt_iff_lt-mul, mul-lt-mul_of_pos_right, arith, lit≤, pow_pos, ne_eqb, leb-false, leb-true}
use mathlib.Core.Bool.{and-false}
use lib.Ieee.{Float}
use Rattle.floats.specs.F32.{whole32, ◌⊕◌, ◌⊗◌}
use Rattle.floats.proofs.At.{At}
use Rattle.floats.proofs.Ticks.{tick, cycle, cycle_is, tick_pos, Sum}
use Rattle.floats.proofs.PhaseSteps.{Step, wraps_at_1, phase_sum, phase_by}
use Rattle.floats.proofs.PowerOfTwo.{mul_pow, whole_pow}
use Rattle.floats.proofs.WholeNumbers.{whole_at}
use Rattle.whole_part.specs.WholePart.{whole_part, is_whole}
use Rattle.whole_part.proofs.Exact.{whole_part_at}
use Rattle.block.specs.Counting.{one_if}
use Rattle.nes_triangle.specs.declared.State.{State}
use Rattle.nes_triangle.specs.declared.depth.Depth.{Depth}
use Rattle.nes_triangle.specs.Depth.{depth_of}
use Rattle.nes_triangle.specs.Sample.{wrap_phase, wrap_step, stepped_of}
use Rattle.nes_triangle.specs.Private.{Ready}
use Rattle.nes_triangle.proofs.Depths.{few_steps, top_most, top_few}

-- ---- the whole part of a phase of n units, below 2, times the number of steps
module _ {x : Float} {n : ℕ} (bits : ℕ) (few : bits ≤ 16) (p : At x n) (h : n < 2 * cycle) where
  below : n * 2 ^ bits < 2 * 2 ^ bits * 2 ^ 149
  below =
      let l : n * 2 ^ bits < 2 * 2 ^ 149 * 2 ^ bits = mul-lt-mul_of_pos_right (subst (λ (k : ℕ). n < 2 * k) cycle_is h) (pow_pos bits) in
      let e : 2 * 2 ^ 149 * 2 ^ bits ≡ 2 * 2 ^ bits * 2 ^ 149 = mul_assoc 2 (2 ^ 149) (2 ^ bits) ∙ ap (λ (k : ℕ). 2 * k) (mul_comm (2 ^ 149) (2 ^ bits)) ∙ sym (mul_assoc 2 (2 ^ bits) (2 ^ 149)) in
      subst (λ (k : ℕ). n * 2 ^ bits < k) e l

  most : 2 * 2 ^ bits ≤ 131072
  most = omega (arith, few_steps bits few)

  pub whole_under : n * 2 ^ bits / 2 ^ 149 < 2 * 2 ^ bits
  whole_under = (div-lt_iff_lt-mul (pow_pos 149)).1 below

  product : At (x ⊗ whole32 (2 ^ bits)) (n * 2 ^ bits)
  product = mul_pow bits p (whole_at (le_trans (few_steps bits few) (lit≤ tt))) (lt_of_lt_of_le below (le_trans (mul-le-mul_right (2 ^ 149) most) (lit≤ tt)))

  pub whole_is : whole_part (x ⊗ whole32 (2 ^ bits)) ≡ n * 2 ^ bits / 2 ^ 149
  whole_is = whole_part_at product (lt_of_lt_of_le whole_under most)

-- ---- the wrap, from the old step and the whole part
wraps : (whole step n : ℕ) → step < n → (not (eqb whole step) && leb n whole) ≡ leb n whole
wraps whole step n h = go (leb n whole) refl
  where
    go : (o : Bool) → leb n whole ≡ o → (not (eqb whole step) && o) ≡ o
    go true l = rw (ne_eqb whole step (λ e. omega (arith, leb-true n whole l)))
    go false l = and-false (not (eqb whole step))

step_under : (whole n : ℕ) (wrap : Bool) → wrap ≡ leb n whole → whole < 2 * n → wrap_step whole n wrap < n
step_under whole n true e h = omega (arith, leb-true n whole (sym e))
step_under whole n false e h = omega (arith, leb-false n whole (sym e))

-- what a sample does to a phase of a units with a step of b, and to the state's step
pub record StepLaw (d : Depth) (s : State) (frequency : Float) (bits a b : ℕ) : Type 0 where
  pub phase : Step (stepped_of d s frequency).phase (one_if (stepped_of d s frequency).wrap) a b cycle tick cycle
  pub step : (stepped_of d s frequency).next_step < 2 ^ bits

module _ (d : Depth) (s : State) (frequency : Float) (h : Ready d s frequency) where
  sum : Sum (s.phase ⊕ frequency) h.valid.phase.n h.some.n (21233664 * tick) tick
  sum = phase_sum wraps_at_1 h.valid.phase.at h.some.at (omega (arith, h.valid.phase.under, h.some.most))

  low : sum.n < 2 * cycle
  low = omega (arith, sum.top, tick_pos)

  -- from the whole part, the old step and the number of steps
  module _ (whole n : ℕ) (old : ℤ) (at-whole : whole ≡ sum.n * 2 ^ h.bits / 2 ^ 149) (at_old : old ≡ pos h.valid.step.n) (at_n : n ≡ 2 ^ h.bits) where
    abbrev test : Bool
    test = not (is_whole whole old) && leb n whole

    test_is : test ≡ leb n whole
    test_is = rw at_old (wraps whole h.valid.step.n n (rw at_n h.valid.step.under))

    stepped_phase : Step (wrap_phase (s.phase ⊕ frequency) test) (one_if test) h.valid.phase.n h.some.n cycle tick cycle
    stepped_phase = phase_by wraps_at_1 sum test (test_is ∙ rw (at_n, at-whole) (whole_pow sum.n h.bits) ∙ ap (λ (k : ℕ). leb k sum.n) (sym cycle_is))

    stepped_step : wrap_step whole n test < 2 ^ h.bits
    stepped_step = subst (λ (k : ℕ). wrap_step whole n test < k) at_n (step_under whole n test test_is (rw (at-whole, at_n) (whole_under h.bits h.bits_in.high sum.at low)))

  pub step_law : StepLaw d s frequency h.bits h.valid.phase.n h.some.n
  unfolding stepped_of depth_of
  step_law =
      let whole = whole_part ((s.phase ⊕ frequency) ⊗ d.num_steps_f) in
      let at-whole : whole ≡ sum.n * 2 ^ h.bits / 2 ^ 149 =
      ap (λ (e : Depth). whole_part ((s.phase ⊕ frequency) ⊗ e.num_steps_f)) h.depth ∙ whole_is h.bits h.bits_in.high sum.at low in
      let at_n : d.num_steps ≡ 2 ^ h.bits = ap (λ (e : Depth). e.num_steps) h.depth in
      record {
        phase = stepped_phase whole d.num_steps s.step at-whole h.valid.step.is at_n;
        step = stepped_step whole d.num_steps s.step at-whole h.valid.step.is at_n;
      }

  -- what a new step and the end of a sample ask: small numbers, and a step of at most the top
  pub turnable : (whole : ℕ) → whole ≡ whole_part ((s.phase ⊕ frequency) ⊗ d.num_steps_f) → (whole < 2 * d.num_steps) × (d.num_steps ≤ 65536)
  unfolding depth_of
  turnable whole e = rw (e, h.depth) (rw (whole_is h.bits h.bits_in.high sum.at low) (whole_under h.bits h.bits_in.high sum.at low), few_steps h.bits h.bits_in.high)

  pub finishable : ((stepped_of d s frequency).next_step ≤ d.top) × (d.top < 65536)
  unfolding depth_of
  finishable =
      let u = step_law.step in
      (subst (λ (e : Depth). (stepped_of d s frequency).next_step ≤ e.top) (sym h.depth) (top_most (2 ^ h.bits) _ u), rw h.depth (top_few h.bits h.bits_in.high))
