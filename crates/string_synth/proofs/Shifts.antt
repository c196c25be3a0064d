-- How far the registration is shifted: the halving loop leaves by its own test for every frequency up to 0.5, and comes to the shift of 8,
-- at which the source gives up, exactly for those above. Assumes nothing.
use Rattle.std.proofs.Common.{◌≡◌, ℕ, suc, ◌+◌, ◌*◌, ◌^◌, ◌<◌, ◌≤◌, Bool, true, false, T, leb, sym, refl, ap, ◌∙◌, subst, lt_of_le_of_lt, mul-le-mul_right, zero-lt-suc, mul_assoc, mul_comm, mul-one, arith, lit<, pow_pos, pow-add, le-ltb}
use borrow.Author.Tests.{lt-leb}
use lib.Ieee.{Float, binary32, fits, lt, le, mul, of_bits}
use Rattle.floats.specs.F32.{◌⊗◌, f32, zero32, half32, one32, eight32, min_frequency}
use Rattle.floats.proofs.Rounding.{rnd, rnd_same, rnd_exact}
use Rattle.floats.proofs.Order.{le_trans}
use Rattle.floats.proofs.At.{At, huge, Even, at_even, mul_at, lt_at}
use Rattle.floats.proofs.Ticks.{tick, cycle, half_at, one_at, eight_at}
use Rattle.floats.proofs.Ranges.{UpTo, upto_of, passed_lt, failed_lt, passes_lt, passes_le}
use Rattle.floats.proofs.PowerOfTwo.{mul_pow}
use Rattle.ranges.specs.Ranges.{parameter_frequency_in}
use Rattle.floats.proofs.Bools.{and_both}
use Rattle.string_synth.specs.declared.targets.Octave.{Octave}
use Rattle.string_synth.specs.Targets.{halved, shift_of}
use Rattle.string_synth.proofs.Octaves.{octave, stops}

-- 01: "1/16 shifts 0, the next float up shifts 2, exactly 0.5 shifts 6"; and the next float above 0.5 shifts 8
pub figures : (shift_of (f32 0x3d80_0000) ≡ 0) × (shift_of (f32 0x3d80_0001) ≡ 2) × (shift_of half32 ≡ 6) × (shift_of (f32 0x3f00_0001) ≡ 8)
unfolding halved mul lt of_bits
figures = (refl, refl, refl, refl)

zero_min : le zero32 min_frequency ≡ true
unfolding le of_bits
zero_min = refl

-- a half of an even number of units is exact
halve : {x : Float} {m : ℕ} → Even m → m < huge → At x (2 * m) → At (x ⊗ half32) m
unfolding tick
halve {x} {m} e h p = subst (λ (k : ℕ). At (x ⊗ half32) k) exact (mul_at p half_at (subst (λ (k : ℕ). k < huge) (sym exact) h))
  where
    same : 2 * m * (8388608 * 2 ^ 125) * 1 ≡ m * 2 ^ 149
    same = mul-one (2 * m * 2 ^ 148) ∙ ap (λ (k : ℕ). k * 2 ^ 148) (mul_comm 2 m) ∙ mul_assoc m 2 (2 ^ 148)

    exact : rnd (2 * m * (8388608 * 2 ^ 125)) (2 ^ 149) ≡ m
    exact =
        rnd_same (2 * m * (8388608 * 2 ^ 125)) (2 ^ 149) m 1 (pow_pos 149) (zero-lt-suc 0) same
        ∙ ap (λ (k : ℕ). rnd k 1) e.is ∙ rnd_exact e.q e.j e.small ∙ sym e.is

turns : (k : ℕ) (o : Octave) → lt half32 o.frequency ≡ true → halved (suc k) o ≡ halved k (octave (o.frequency ⊗ half32) (o.shift + 2))
unfolding halved
turns k o h = rw h

-- n units times 2 ^ b, a multiple that binary32 holds
even_times : {x : Float} {n : ℕ} (b : ℕ) → At x n → Even (n * 2 ^ b)
even_times {x} {n} b p =
    let e = at_even p in
    record { q = e.q; j = e.j + b; small = e.small; is = ap (λ (k : ℕ). k * 2 ^ b) e.is ∙ mul_assoc e.q (2 ^ e.j) (2 ^ b) ∙ ap (λ (k : ℕ). e.q * k) (sym (pow-add 2 e.j b)) }

-- up to 8.0
small : (n k : ℕ) → n ≤ cycle → k ≤ n * 8 → k < huge
unfolding tick
small n k h l = lt_of_le_of_lt l (lt_of_le_of_lt (mul-le-mul_right 8 h) (lit< tt))

low_enough : {x : Float} {m : ℕ} → At x m → lt half32 x ≡ false → le x half32 ≡ true
low_enough q h = passes_le q half_at (failed_lt half_at q h)

-- a frequency of n units, at most 1.0, and its octaves
module _ (f : Float) (n : ℕ) (p : At f n) (top : n ≤ cycle) where
  abbrev x8 : Float
  x8 = f ⊗ eight32

  at_8 : At x8 (n * 8)
  at_8 = mul_pow 3 p eight (small n (n * 8) top (omega arith))
    where
      eight : At eight32 (2 ^ 3 * 2 ^ 149)
      eight = unfold tick in eight_at

  at_4 : At (x8 ⊗ half32) (n * 4)
  at_4 = halve (even_times 2 p) (small n (n * 4) top (omega arith)) (subst (At x8) (omega arith) at_8)

  at_2 : At (x8 ⊗ half32 ⊗ half32) (n * 2)
  at_2 = halve (even_times 1 p) (small n (n * 2) top (omega arith)) (subst (At (x8 ⊗ half32)) (omega arith) at_4)

  at_1 : At (x8 ⊗ half32 ⊗ half32 ⊗ half32) n
  at_1 = halve (at_even p) (small n n top (omega arith)) (subst (At (x8 ⊗ half32 ⊗ half32)) (omega arith) at_2)

  -- the loop ends at r, by its own test, however many turns it may make, and no lower than f
  pub record Ends : Type 0 where
    pub r : Octave
    pub same : (j : ℕ) → halved (suc (suc (suc j))) (octave x8 0) ≡ r
    pub most : r.shift ≤ 6
    pub low : le r.frequency half32 ≡ true
    pub size : ℕ
    pub at : At r.frequency size
    pub least : n ≤ size

  pub loop_ends : n ≤ 8388608 * tick → Ends
  loop_ends l = none (lt half32 x8) refl
    where
      three : (j : ℕ) → lt half32 x8 ≡ true → lt half32 (x8 ⊗ half32) ≡ true → lt half32 (x8 ⊗ half32 ⊗ half32) ≡ true → halved (suc (suc (suc j))) (octave x8 0) ≡ octave (x8 ⊗ half32 ⊗ half32 ⊗ half32) 6
      three j h i k =
          turns (suc (suc j)) (octave x8 0) h ∙ turns (suc j) (octave (x8 ⊗ half32) 2) i ∙ turns j (octave (x8 ⊗ half32 ⊗ half32) 4) k
          ∙ stops j (octave (x8 ⊗ half32 ⊗ half32 ⊗ half32) 6) (lt_at half_at at_1 ∙ le-ltb (8388608 * tick) n l)

      two : lt half32 x8 ≡ true → lt half32 (x8 ⊗ half32) ≡ true → (b : Bool) → lt half32 (x8 ⊗ half32 ⊗ half32) ≡ b → Ends
      two h i true k = record { r = octave (x8 ⊗ half32 ⊗ half32 ⊗ half32) 6; same = λ j. three j h i k; most = omega arith; low = passes_le at_1 half_at l; size = n; at = at_1; least = omega arith }
      two h i false k = record {
        r = octave (x8 ⊗ half32 ⊗ half32) 4;
        same = λ j. turns (suc (suc j)) (octave x8 0) h ∙ turns (suc j) (octave (x8 ⊗ half32) 2) i ∙ stops (suc j) (octave (x8 ⊗ half32 ⊗ half32) 4) k;
        most = omega arith;
        low = low_enough at_2 k;
        size = n * 2;
        at = at_2;
        least = omega arith;
      }

      one : lt half32 x8 ≡ true → (b : Bool) → lt half32 (x8 ⊗ half32) ≡ b → Ends
      one h true i = two h i (lt half32 (x8 ⊗ half32 ⊗ half32)) refl
      one h false i = record { r = octave (x8 ⊗ half32) 2; same = λ j. turns (suc (suc j)) (octave x8 0) h ∙ stops (suc (suc j)) (octave (x8 ⊗ half32) 2) i; most = omega arith; low = low_enough at_4 i; size = n * 4; at = at_4; least = omega arith }

      none : (b : Bool) → lt half32 x8 ≡ b → Ends
      none true h = one h (lt half32 (x8 ⊗ half32)) refl
      none false h = record { r = octave x8 0; same = λ j. stops (suc (suc (suc j))) (octave x8 0) h; most = omega arith; low = low_enough at_8 h; size = n * 8; at = at_8; least = omega arith }

  pub eight : 8388608 * tick < n → shift_of f ≡ 8
  unfolding halved
  eight l =
      ap (λ (o : Octave). o.shift)
      (turns 3 (octave x8 0) (passes_lt half_at at_8 (omega arith)) ∙ turns 2 (octave (x8 ⊗ half32) 2) (passes_lt half_at at_4 (omega arith))
      ∙ turns 1 (octave (x8 ⊗ half32 ⊗ half32) 4) (passes_lt half_at at_2 (omega arith)) ∙ turns 0 (octave (x8 ⊗ half32 ⊗ half32 ⊗ half32) 6) (passes_lt half_at at_1 l))

-- the source's test, `shift >= 8`, is 01's, "frequency above 0.5", for every frequency in its range
pub gives_up : (f : Float) → T (fits binary32 f) → parameter_frequency_in f ≡ true → leb 8 (shift_of f) ≡ lt half32 f
gives_up f t h =
    let r = and_both (le min_frequency f) (le f one32) h in
    let u = upto_of t (le_trans zero32 min_frequency f zero_min r.0) r.1 one_at in
    go u (lt half32 f) refl
  where
    go : UpTo f cycle → (b : Bool) → lt half32 f ≡ b → leb 8 (shift_of f) ≡ b
    go u true k = ap (leb 8) (eight f u.n u.at u.most (passed_lt half_at u.at k))
    go u false k =
        let l = loop_ends f u.n u.at u.most (failed_lt half_at u.at k) in
        ap (λ (o : Octave). leb 8 o.shift) (l.same 1) ∙ lt-leb 8 l.r.shift (omega (arith, l.most))
