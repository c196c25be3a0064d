-- The only samples half way between two whole numbers are 0.5 and -0.5. Assumes nothing.
use mathlib.Core.Path.{◌≡◌, refl, sym, ap, ◌∙◌, subst}
use mathlib.Core.Bool.{Bool, true, false, cond}
use mathlib.Core.Logic.{◌⊎◌, inl, inr}
use Prim.Native.Nat.{ℕ, zero, suc, ◌+◌, ◌*◌, ◌/◌, ◌%◌, ◌-◌, ◌^◌, ◌≤◌, ◌<◌, min}
use native.Mathlib.Nat.{mul_comm, mul-add, add-mul, mul_left_comm, mul_right_comm, one-mul, zero-mul, mod-lt, div-add-mod', le_trans, le-add_right, le_of_mul-le-mul_right, lt_of_mul-lt-mul_right}
use native.Mathlib.Omega.{arith}
use lib.Dec.{T, lit<}
use lib.Pow.{pow_pos}
use lib.IntN.{ℤ, pos, negsuc, neg_ℤ, nat_abs, neg_ℤ-neg_ℤ}
use lib.Ieee.{Float, nan, inf, fin, binary32, up, down, size, fits, of_bits, to_bits}
use lib.Ieee.Bits.{of_bits-to_bits}
use lib.Ieee.Digits.{back}
use Rattle.floats.specs.F32.{f32}
use Rattle.floats.specs.Units.{units}
use Rattle.floats.proofs.Rounding.{Within}
use Rattle.wave.specs.Pcm.{one, clipped, value_of, rounded, nearest_of, pcm_of, off}
use Rattle.wave.proofs.Rounded.{rounded_err}
use Rattle.wave.proofs.Gaps.{apart, apart_neg, size_neg, off_neg}
use Rattle.wave.proofs.Nearest.{as_near, farther}
use Rattle.wave.proofs.Values.{value_most}

-- of 2 ^ 148 parts of a whole 32,767 times b are whole only where b is none: 2 ^ 148 leaves 8,192 over 32,767, which four times is 1
no_part : (P Q b c : ℕ) → P ≡ 32767 * Q + 8192 → b * 32767 ≡ c * P → b < P → c ≡ 0
no_part P Q b c p e l =
    let few : c < 32767 = lt_of_mul-lt-mul_right P (lower b P e l) in
    let parts : c * P ≡ 32767 * (c * Q) + 8192 * c = rw (p, mul-add c (32767 * Q) 8192, mul_left_comm c 32767 Q, mul_comm c 8192) in
    none b (c * Q) c (e ∙ parts) few
  where
    lower : (b P : ℕ) → b * 32767 ≡ c * P → b < P → c * P < 32767 * P
    lower b P e l = omega arith

    none : (b d c : ℕ) → b * 32767 ≡ 32767 * d + 8192 * c → c < 32767 → c ≡ 0
    none b d c e l = go (4 * b - (4 * d + c)) refl
      where
        go : (t : ℕ) → 4 * b - (4 * d + c) ≡ t → c ≡ 0
        go zero h = omega arith
        go (suc t) h = absurd (omega arith)

-- so a * P + b units, at most 2 * P, which is 1, are half way only where they are P
module _ (P Q a b v : ℕ) (some : 0 < P) (p : P ≡ 32767 * Q + 8192) (least : b < P) (most : a * P + b ≤ 2 * P) (e : (a * P + b) * 32767 * 2 ≡ v * (2 * P) * 2 + 2 * P) where
  few : a * 32767 * P + b * 32767 ≡ (v * 2 + 1) * P
  few =
      let left : (a * P + b) * 32767 ≡ a * 32767 * P + b * 32767 = rw (add-mul (a * P) b 32767, mul_right_comm a P 32767) in
      let right : (v * 2 + 1) * P ≡ v * P * 2 + P = rw (add-mul (v * 2) 1 P, mul_right_comm v 2 P, one-mul P) in
      let times : v * (2 * P) ≡ 2 * (v * P) = mul_left_comm v 2 P in
      omega (arith, left, right, times, e)

  under : a * 32767 ≤ v * 2 + 1
  under = le_of_mul-le-mul_right (subst (λ (k : ℕ). a * 32767 * P ≤ k) few (le-add_right (a * 32767 * P) (b * 32767))) some

  c : ℕ
  c = v * 2 + 1 - a * 32767

  rest : b * 32767 ≡ c * P
  unfolding c
  rest =
      let sum : c * P + a * 32767 * P ≡ (v * 2 + 1) * P = sym (add-mul c (a * 32767) P) ∙ ap (λ (k : ℕ). k * P) (back (v * 2 + 1) (a * 32767) under) in
      omega (arith, few, sum)

  one_part : (a : ℕ) → v * 2 + 1 ≡ a * 32767 → a ≤ 2 → a ≡ 1
  one_part zero h l = absurd (omega arith)
  one_part (suc zero) h l = refl
  one_part (suc (suc zero)) h l = absurd (omega arith)
  one_part (suc (suc (suc a))) h l = absurd (omega arith)

  pub half_way : a * P + b ≡ P
  unfolding c
  half_way =
      let c0 : c ≡ 0 = no_part P Q b c p rest least in
      let b0 : b * 32767 ≡ 0 = rest ∙ ap (λ (k : ℕ). k * P) c0 ∙ zero-mul P in
      let odd : v * 2 + 1 ≡ a * 32767 = omega (arith, c0, under) in
      let twice : a ≤ 2 = le_of_mul-le-mul_right (le_trans (le-add_right (a * P) b) most) some in
      let whole : a * P ≡ P = ap (λ (k : ℕ). k * P) (one_part a odd twice) ∙ one-mul P in
      omega (arith, b0, whole)

-- ---- of a value
-- half of 1, in units
abbrev half : ℕ
half = 2 ^ 148

less_is_other : (a b : ℕ) → a < b → a ≡ b → ⊥
less_is_other a b h e = omega arith

near : (n : ℕ) → Within (rounded (n * 32767) one * one * 2) (n * 32767 * 2) one
near n = rounded_err (n * 32767) one (pow_pos 149)

middle : (n v : ℕ) → n ≤ one → n * 32767 * 2 ≡ v * one * 2 + one → n ≡ half
middle n v h e =
    let whole : n / half * half + n % half ≡ n = div-add-mod' n half in
    sym whole ∙ half_way half 0x2000400080010002000400080010002000 (n / half) (n % half) v (pow_pos 148) refl (mod-lt n (pow_pos 148)) (rw whole h) (rw whole e)

tie_pos : (n : ℕ) (k : ℤ) → n ≤ one → (k ≡ nearest_of (pos n) → ⊥) → off k (pos n) ≡ off (nearest_of (pos n)) (pos n) → n ≡ half
unfolding off nearest_of
tie_pos n (pos m) h other e =
    let r = rounded (n * 32767) one in
    let found = as_near one (n * 32767) r (near n) m (λ (q : m ≡ r). other (ap pos q)) (sym (apart (m * one) (n * 32767)) ∙ e ∙ apart (r * one) (n * 32767)) in
    middle n found.0 h found.1
tie_pos n (negsuc m) h other e =
    let r = rounded (n * 32767) one in
    absurd (less_is_other _ _ (farther one (n * 32767) r (near n) (pow_pos 149) m) (sym (apart (r * one) (n * 32767)) ∙ sym e ∙ apart_neg (suc m * one) (n * 32767)))

tie_value : (z k : ℤ) → nat_abs z ≤ one → (k ≡ nearest_of z → ⊥) → off k z ≡ off (nearest_of z) z → nat_abs z ≡ half
unfolding nearest_of
tie_value (pos n) k h other e = tie_pos n k h other e
tie_value (negsuc n) k h other e =
    tie_pos (suc n) (neg_ℤ k) h (λ (q : neg_ℤ k ≡ nearest_of (pos (suc n))). other (sym (neg_ℤ-neg_ℤ k) ∙ ap neg_ℤ q))
    (off_neg k (negsuc n) ∙ e ∙ off_neg (pos (rounded (suc n * 32767) one)) (pos (suc n)))

-- ---- of a sample
-- only 0.5 and -0.5 have this value: the bits are made of it
half_only : (x : Float) → T (fits binary32 x) → nat_abs (value_of x) ≡ half → (x ≡ f32 0x3f00_0000) ⊎ (x ≡ f32 0xbf00_0000)
unfolding value_of units to_bits
half_only nan t h = absurd (less_is_other 0 half (lit< tt) h)
half_only (inf true) t h = absurd (less_is_other half one (lit< tt) (sym h))
half_only (inf false) t h = absurd (less_is_other half one (lit< tt) (sym h))
half_only (fin s m e) t h = go s t h
  where
    n : ℕ
    n = m * up e * 2 ^ 149 / down e

    unclipped : (n u half : ℕ) → min n u ≡ half → half < u → n ≡ half
    unclipped n u half h l = omega arith

    bits : (s : Bool) → T (fits binary32 (fin s m e)) → n ≡ half → fin s m e ≡ f32 (cond s 2147483648 0 + 1048576000 + 8388608)
    bits s t q = sym (of_bits-to_bits binary32 (fin s m e) t) ∙ ap f32 (ap (λ (k : ℕ). cond s 2147483648 0 + (size k - 24) * 8388608 + k / 2 ^ (size k - 24)) q)

    go : (s : Bool) → T (fits binary32 (fin s m e)) → nat_abs (clipped (cond s (neg_ℤ (pos n)) (pos n))) ≡ half → (fin s m e ≡ f32 0x3f00_0000) ⊎ (fin s m e ≡ f32 0xbf00_0000)
    go false t h = inl (bits false t (unclipped n one half h (lit< tt)))
    go true t h = inr (bits true t (unclipped n one half (sym (turned n) ∙ h) (lit< tt)))
      where
        turned : (n : ℕ) → nat_abs (clipped (neg_ℤ (pos n))) ≡ min n one
        turned zero = refl
        turned (suc n) = size_neg (pos (min (suc n) one))

-- 02 (ii)'s only ties: where another whole number is as near, the sample is 0.5 or -0.5
pub only_ties : (x : Float) → T (fits binary32 x) → (k : ℤ) → (k ≡ pcm_of x → ⊥) → off k (value_of x) ≡ off (pcm_of x) (value_of x) → (x ≡ f32 0x3f00_0000) ⊎ (x ≡ f32 0xbf00_0000)
unfolding pcm_of
only_ties x t k other e = half_only x t (tie_value (value_of x) k (value_most x) other e)

-- and these two are ties, which go to the even number
pub half_even : (pcm_of (f32 0x3f00_0000) ≡ pos 16384) × (off (pos 16383) (value_of (f32 0x3f00_0000)) ≡ off (pos 16384) (value_of (f32 0x3f00_0000)))
unfolding of_bits pcm_of nearest_of value_of rounded units off
half_even = (refl, refl)

pub minus_half_even : (pcm_of (f32 0xbf00_0000) ≡ negsuc 16383) × (off (negsuc 16382) (value_of (f32 0xbf00_0000)) ≡ off (negsuc 16383) (value_of (f32 0xbf00_0000)))
unfolding of_bits pcm_of nearest_of value_of rounded units off
minus_half_even = (refl, refl)
