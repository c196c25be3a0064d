-- A fraction rounded to the nearest whole number is what the kit's `closest` gives, whose laws hold of it. Assumes nothing.
use mathlib.Core.Path.{◌≡◌, refl, sym}
use Prim.Native.Nat.{ℕ, zero, suc, ◌+◌, ◌*◌, ◌/◌, ◌%◌, ◌≤◌, ◌<◌, compare, Ordering}
use native.Mathlib.Nat.{zero-lt-suc, mul-one, mul-le-mul_right, le_trans}
use native.Mathlib.Numerals.{add-one}
use native.Mathlib.Omega.{arith}
use mathlib.Core.Bool.{cond}
use borrow.Author.Tests.{eq-eqb, ne_eqb, le-leb, lt-leb}
use lib.Arith.{lt_of_le-ne}
use lib.Dec.{is_le, compare_is_eq}
use lib.Ieee.{nearest}
use lib.Ieee.Nearest.{closest, closest_mono, closest_same}
use Rattle.floats.proofs.Rounding.{Within, closest_err}
use Rattle.wave.specs.Pcm.{rounded}

pub as_closest : (a b : ℕ) → rounded a b ≡ closest a b
unfolding rounded
as_closest a b = go (compare (a % b * 2) b)
  where
    go : (o : Ordering) → cond (compare_is_eq o) (a / b + a / b % 2) (cond (is_le o) (a / b) (a / b + 1)) ≡ nearest (a / b) o
    go Ordering.lt = refl
    go Ordering.eq = refl
    go Ordering.gt = add-one (a / b)

-- the three ways of the definition
module _ (a b : ℕ) where
  pub a_tie : a % b * 2 ≡ b → rounded a b ≡ a / b + a / b % 2
  unfolding rounded
  a_tie h = rw (eq-eqb (a % b * 2) b h)

  pub below_half : a % b * 2 < b → rounded a b ≡ a / b
  unfolding rounded
  below_half h = rw (ne_eqb (a % b * 2) b (λ (e : a % b * 2 ≡ b). omega arith), le-leb (a % b * 2) b (omega arith))

  pub above_half : (a % b * 2 ≡ b → ⊥) → b ≤ a % b * 2 → rounded a b ≡ a / b + 1
  unfolding rounded
  above_half n h = rw (ne_eqb (a % b * 2) b n, lt-leb (a % b * 2) b (lt_of_le-ne h (λ (e : b ≡ a % b * 2). n (sym e))))

-- a larger fraction gives a number that is no smaller
pub rounded_mono : (a b c d : ℕ) → 0 < b → 0 < d → a * d ≤ c * b → rounded a b ≤ rounded c d
rounded_mono a b c d B D h = rw (as_closest a b, as_closest c d) (closest_mono a b c d B D h)

-- equal fractions give the same
pub rounded_same : (a b c d : ℕ) → 0 < b → 0 < d → a * d ≡ c * b → rounded a b ≡ rounded c d
rounded_same a b c d B D h = rw (as_closest a b, as_closest c d) (closest_same a b c d B D h)

-- it is off by half at most
pub rounded_err : (n u : ℕ) → 0 < u → Within (rounded n u * u * 2) (n * 2) u
rounded_err n u U = rw (as_closest n u) (closest_err n u U)

-- what is at most k is at most k when it is rounded
pub rounded_most : (n u k : ℕ) → 0 < u → n ≤ k * u → rounded n u ≤ k
rounded_most n u k U h = le_trans (rounded_mono n u k 1 U (zero-lt-suc 0) (rw (mul-one n) h)) (whole (rounded k 1) (rounded_err k 1 (zero-lt-suc 0)))
  where
    whole : (r : ℕ) → Within (r * 1 * 2) (k * 2) 1 → r ≤ k
    whole r w = omega arith

-- what is less than half is 0
pub rounded_none : (n u : ℕ) → 0 < u → n * 2 < u → rounded n u ≡ 0
rounded_none n u U h = go (rounded n u) (rounded_err n u U)
  where
    at_least_lem : (r : ℕ) → 1 ≤ suc r
    at_least_lem r = omega arith

    go : (r : ℕ) → Within (r * u * 2) (n * 2) u → r ≡ 0
    go zero w = refl
    go (suc r) w = absurd (omega (arith, mul-le-mul_right u (at_least_lem r)))
