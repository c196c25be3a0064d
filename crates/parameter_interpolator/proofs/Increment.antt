-- The increment of a glide: its sign is the way's, and n of them are the way but for two roundings. Assumes nothing.
use Rattle.std.proofs.Common.{◌≡◌, ℕ, ◌+◌, ◌-◌, ◌*◌, ◌^◌, ◌<◌, ◌≤◌, sym, ap, ◌∙◌, subst, le_trans, le_of_eq, lt_of_le_of_lt, zero-lt-suc, mul_assoc, mul_comm, mul-le-mul_left, mul-pos, zero-mul, mul-one, mul_right_comm, arith, lit<, pow_pos}
use native.Mathlib.Nat.{sub-zero}
use lib.Ieee.{Float}
use Rattle.floats.specs.F32.{whole32}
use Rattle.floats.proofs.Signed.{Is, sub_is, div_is}
use Rattle.floats.proofs.At.{huge, is_at}
use Rattle.floats.proofs.WholeNumbers.{whole_at}
use Rattle.floats.proofs.Rounding.{Within, rnd, rnd_same, rnd_mono, rnd_up, rnd_zero, rnd_exact}
use Rattle.parameter_interpolator.specs.Interpolator.{new_interpolator}
use Rattle.parameter_interpolator.proofs.Errors.{rnd_relative}
use Rattle.parameter_interpolator.proofs.Climb.{no_rest}

-- ---- its size, for a way of D units in n steps: the difference is rounded, and the quotient
abbrev pub share : ℕ → ℕ → ℕ
share n D = rnd (rnd D 1) n

-- a bound F on the way, that binary32 holds, and that is not tiny
pub record Far (n F D : ℕ) : Type 0 where
  pub held : rnd F 1 ≡ F
  pub finite : F < huge
  pub some : 8388608 * n ≤ F
  pub most : D ≤ F

module _ {n F D : ℕ} (N : 0 < n) (far : Far n F D) where
  way_le : rnd D 1 ≤ F
  way_le = rnd_up far.held far.most

  share_le : share n D ≤ F
  share_le =
      le_trans
      (rnd_mono (rnd D 1) n F 1 N (zero-lt-suc 0) (le_trans (le_of_eq (mul-one (rnd D 1))) (le_trans way_le (le_trans (le_of_eq (sym (mul-one F))) (mul-le-mul_left F N)))))
      (le_of_eq far.held)

  pub share_near : Within (16777216 * (n * share n D)) (16777216 * D) (2 * F)
  share_near =
      join (rnd D 1) (n * share n D) (share n D * n) (mul_comm n (share n D)) (rnd_relative D 1 F (zero-lt-suc 0) far.most (omega (arith, far.some)))
      (rnd_relative (rnd D 1) n F N way_le far.some)
    where
      join : (x y z : ℕ) → y ≡ z → Within (16777216 * (x * 1)) (16777216 * D) F → Within (16777216 * z) (16777216 * x) F → Within (16777216 * y) (16777216 * D) (2 * F)
      join x y z e a b = omega arith

-- a way of n units or more
pub share_pos : (n D : ℕ) → 0 < n → n ≤ rnd D 1 → 0 < share n D
share_pos n D N h = le_trans (le_of_eq (sym (rnd_exact 1 0 (lit< tt)))) (rnd_mono 1 1 (rnd D 1) n (zero-lt-suc 0) N (omega arith))

-- ---- its value, for a way of A - B where B is at most A, and for the same way back
quotient : (n X : ℕ) → 0 < n → rnd (X * 2 ^ 149) (n * 2 ^ 149) ≡ rnd X n
quotient n X N = rnd_same (X * 2 ^ 149) (n * 2 ^ 149) X n (mul-pos N (pow_pos 149)) N (mul_right_comm X (2 ^ 149) n ∙ mul_assoc X n (2 ^ 149))

module _ {n F A B : ℕ} (N : 0 < n) (far : Far n F (A - B)) (h : B ≤ A) where
  way : rnd (A - B) 1 < huge
  way = lt_of_le_of_lt (way_le N far) far.finite

  none : rnd (B - A) 1 < huge
  none = subst (λ (k : ℕ). k < huge) (sym (no_rest h)) (lit< tt)

  plus : rnd ((rnd (A - B) 1 - rnd (B - A) 1) * 2 ^ 149) (n * 2 ^ 149) ≡ share n (A - B)
  plus = ap (λ (k : ℕ). rnd (k * 2 ^ 149) (n * 2 ^ 149)) (ap (λ (k : ℕ). rnd (A - B) 1 - k) (no_rest h) ∙ sub-zero (rnd (A - B) 1)) ∙ quotient n (rnd (A - B) 1) N

  minus : rnd ((rnd (B - A) 1 - rnd (A - B) 1) * 2 ^ 149) (n * 2 ^ 149) ≡ 0
  minus = rnd_zero (n * 2 ^ 149) (mul-pos N (pow_pos 149)) (ap (λ (k : ℕ). k * 2 ^ 149) gone ∙ zero-mul (2 ^ 149))
    where
      gone : rnd (B - A) 1 - rnd (A - B) 1 ≡ 0
      gone = let e : rnd (B - A) 1 ≡ 0 = no_rest h in omega arith

  plus_lt : rnd ((rnd (A - B) 1 - rnd (B - A) 1) * 2 ^ 149) (n * 2 ^ 149) < huge
  plus_lt = subst (λ (k : ℕ). k < huge) (sym plus) (lt_of_le_of_lt (share_le N far) far.finite)

  minus_lt : rnd ((rnd (B - A) 1 - rnd (A - B) 1) * 2 ^ 149) (n * 2 ^ 149) < huge
  minus_lt = subst (λ (k : ℕ). k < huge) (sym minus) (lit< tt)

-- of a glide from v, p - q units, to t, r - s units
module _ {v t : Float} {p q r s n : ℕ} (N : 0 < n) (few : n ≤ 2 ^ 24) (R : Is t r s) (P : Is v p q) where
  length : Is (whole32 n) (n * 2 ^ 149) 0
  length = is_at (whole_at few)

  pub increment_up : {F : ℕ} → s + p ≤ r + q → Far n F (r + q - (s + p)) → Is (new_interpolator v t n).increment (share n (r + q - (s + p))) 0
  increment_up h far =
      rw (plus N far h, minus N far h) at (div_is (sub_is R P (way N far h) (none N far h)) length (mul-pos N (pow_pos 149)) (plus_lt N far h) (minus_lt N far h))

  pub increment_down : {F : ℕ} → r + q ≤ s + p → Far n F (s + p - (r + q)) → Is (new_interpolator v t n).increment 0 (share n (s + p - (r + q)))
  increment_down h far =
      rw (plus N far h, minus N far h) at (div_is (sub_is R P (none N far h) (way N far h)) length (mul-pos N (pow_pos 149)) (minus_lt N far h) (plus_lt N far h))
