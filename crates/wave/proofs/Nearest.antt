-- No whole number is nearer to 32,767 times a sample's value than the sample's number, and only between two neighbours can there be a tie. Assumes nothing.
use mathlib.Core.Path.{◌≡◌, refl, sym, ap, ◌∙◌, subst}
use mathlib.Core.Bool.{Bool, true, false}
use mathlib.Core.Logic.{inl, inr}
use Prim.Native.Nat.{ℕ, suc, ◌+◌, ◌*◌, ◌-◌, ◌≤◌, ◌<◌}
use native.Mathlib.Nat.{eq-or-lt_of_le, le_of_lt, mul-le-mul_right, one-mul, add-mul}
use native.Mathlib.Omega.{arith}
use borrow.Author.Tests.{leb-true, leb-false}
use lib.Dec.{leb}
use lib.Pow.{pow_pos}
use lib.IntN.{ℤ, pos, negsuc, neg_ℤ}
use lib.Ieee.{Float}
use Rattle.floats.proofs.Rounding.{Within}
use Rattle.wave.specs.Pcm.{one, value_of, rounded, nearest_of, pcm_of, off}
use Rattle.wave.proofs.Rounded.{rounded_err}
use Rattle.wave.proofs.Gaps.{apart, apart_neg, off_neg}

-- ---- over plain numbers: r units of U are off A by half a unit at most
module _ (U A r : ℕ) (w : Within (r * U * 2) (A * 2) U) where
  abbrev pub here : ℕ
  here = (r * U - A) + (A - r * U)

  -- m is r, or a whole unit or more away from it
  by_place : (P : ℕ → Type 0) → P r → ((m : ℕ) → r * U + U ≤ m * U → P m) → ((m : ℕ) → m * U + U ≤ r * U → P m) → (m : ℕ) → P m
  by_place P same above below m = go (leb m r) refl
    where
      step : (a b : ℕ) → a < b → a * U + U ≤ b * U
      step a b h = subst (λ (k : ℕ). k ≤ b * U) (add-mul a 1 U ∙ ap (λ (k : ℕ). a * U + k) (one-mul U)) (mul-le-mul_right U (up a b h))
        where
          up : (a b : ℕ) → a < b → a + 1 ≤ b
          up a b h = omega arith

      go : (t : Bool) → leb m r ≡ t → P m
      go true h = elim (eq-or-lt_of_le (leb-true m r h)) [ inl e ↦ subst P (sym e) same | inr l ↦ below m (step m r l) ]
      go false h = above m (step r m (leb-false m r h))

  pub no_nearer : (m : ℕ) → here ≤ (m * U - A) + (A - m * U)
  no_nearer = by_place (λ m. here ≤ (m * U - A) + (A - m * U)) (omega arith) (λ m h. omega arith) (λ m h. omega arith)

  -- as near is only a neighbour, and then A lies half way between the two
  pub as_near : (m : ℕ) → (m ≡ r → ⊥) → (m * U - A) + (A - m * U) ≡ here → (v : ℕ) × (A * 2 ≡ v * U * 2 + U)
  as_near m n e =
      by_place (λ m. (m ≡ r → ⊥) → (m * U - A) + (A - m * U) ≡ here → (v : ℕ) × (A * 2 ≡ v * U * 2 + U)) (λ n e. absurd (n refl))
      (λ m h n e. (r, omega arith)) (λ m h n e. (m, omega arith)) m n e

  -- a number below 0 is farther
  pub farther : 0 < U → (m : ℕ) → here < suc m * U + A
  farther some m = omega (arith, mul-le-mul_right U (least m))
    where
      least : (m : ℕ) → 1 ≤ suc m
      least m = omega arith

-- ---- of a value
nearest_pos : (n : ℕ) (k : ℤ) → off (nearest_of (pos n)) (pos n) ≤ off k (pos n)
unfolding off nearest_of
nearest_pos n (pos m) = rw (apart (rounded (n * 32767) one * one) (n * 32767), apart (m * one) (n * 32767)) (no_nearer one (n * 32767) (rounded (n * 32767) one) (rounded_err (n * 32767) one (pow_pos 149)) m)
nearest_pos n (negsuc m) =
    rw (apart (rounded (n * 32767) one * one) (n * 32767), apart_neg (suc m * one) (n * 32767))
    (le_of_lt (farther one (n * 32767) (rounded (n * 32767) one) (rounded_err (n * 32767) one (pow_pos 149)) (pow_pos 149) m))

nearest_all : (z k : ℤ) → off (nearest_of z) z ≤ off k z
unfolding nearest_of
nearest_all (pos n) k = nearest_pos n k
nearest_all (negsuc n) k =
    rw (off_neg (pos (rounded (suc n * 32767) one)) (pos (suc n)), ← off_neg k (negsuc n)) (nearest_pos (suc n) (neg_ℤ k))

-- 02 (ii): "to the nearest whole number"
pub pcm_nearest : (x : Float) (k : ℤ) → off (pcm_of x) (value_of x) ≤ off k (value_of x)
unfolding pcm_of
pcm_nearest x k = nearest_all (value_of x) k
