-- The number of a sample from the fields of its bits: what they stand for, and what the code makes of them. Assumes nothing.
use mathlib.Core.Path.{◌≡◌, refl, sym, ap, ◌∙◌}
use mathlib.Core.Bool.{true, false, true≢false}
use Prim.Native.Nat.{ℕ, zero, suc, ◌+◌, ◌*◌, ◌/◌, ◌%◌, ◌^◌, ◌≤◌, ◌<◌, ◌-◌}
use mathlib.Core.Logic.{inl, inr}
use native.Mathlib.Nat.{eq-or-lt_of_le, mul-le-mul, add_comm, mul_assoc, mul_right_comm, mod-eq_of_lt, lt_of_lt_of_le, le_of_lt, add-sub_of_le, suc-sub-suc}
use native.Mathlib.Omega.{arith}
use lib.Dec.{lit≤}
use lib.IntN.{pos}
use lib.Pow.{pow-add, pow_pos, pow_mono, shl_lt}
use lib.Ieee.{Float, nan, inf, fin, binary32, odd, of_fields, of_bits}
use lib.Ieee.Bits.{nan_bits_is, nan_bits_above}
use lib.Ieee.Exact.{HasValue, odd_sign}
use lib.Ieee.Fits.{odd-fits}
use borrow.Author.Tests.{ne_eqb, lt-leb, lt-ltb}
use Rattle.floats.specs.F32.{f32}
use Rattle.floats.proofs.At.{At, Reads}
use Rattle.wave.specs.Pcm.{one, rounded, pcm_of}
use Rattle.wave.proofs.Rounded.{rounded_same, rounded_none, rounded_most}
use Rattle.wave.proofs.Values.{pcm_at, pcm_over, pcm_infinite, pcm_nan}

-- ---- what the fields stand for, the sign clear
reads_of : (x : Float) (n : ℕ) → HasValue x false n (2 ^ 149) → Reads x n
reads_of nan n v = v
reads_of (inf s) n v = v
reads_of (fin true m e) n v = absurd (true≢false v.0)
reads_of (fin false m e) n v = v.1

-- q digits, shifted
odd_at : (q x : ℕ) → q < 2 ^ 24 → x ≤ 253 → At (odd 24 false q x 149) (q * 2 ^ x)
odd_at q x h k = record {
  fit = odd-fits binary32 24 false q x h (le_of_lt h) (lt_of_lt_of_le (shl_lt 24 x h) (pow_mono (exponent x k)));
  reads = reads_of (odd 24 false q x 149) (q * 2 ^ x) (odd_sign 24 false q x 149);
}
  where
    exponent : (x : ℕ) → x ≤ 253 → 24 + x ≤ 277
    exponent x h = omega arith

module _ (b : ℕ) (small : b < 2147483648) where
  by_fields : f32 b ≡ of_fields binary32 false (b / 8388608) (b % 8388608)
  unfolding of_bits
  by_fields = rw (lt-leb 2147483648 b small, mod-eq_of_lt small)

  -- no digit is left out of the smallest ones
  pub field_none : b / 8388608 ≡ 0 → At (f32 b) (b % 8388608 * 2 ^ 0)
  unfolding of_fields
  field_none e = rw (by_fields, e) (odd_at (b % 8388608) 0 (digits b) (lit≤ tt))
    where
      digits : (b : ℕ) → b % 8388608 < 16777216
      digits b = omega arith

  -- of the others the first one is
  pub field_some : (x : ℕ) → b / 8388608 ≡ suc x → x ≤ 253 → At (f32 b) ((8388608 + b % 8388608) * 2 ^ x)
  unfolding of_fields
  field_some x e h = rw (by_fields, e, ne_eqb (suc x) 255 (λ (z : suc x ≡ 255). omega arith)) (odd_at (8388608 + b % 8388608) x (digits b) h)
    where
      digits : (b : ℕ) → 8388608 + b % 8388608 < 16777216
      digits b = omega arith

-- ---- what the code makes of them
-- q * 2 ^ x units, below 1: the power goes from the one side of the fraction to the other
module _ (q x : ℕ) (few : q < 2 ^ 24) (low : x ≤ 125) where
  reaches : x ≤ 149
  reaches = omega arith

  shifted : rounded (q * 2 ^ x * 32767) one ≡ rounded (q * 32767) (2 ^ (149 - x))
  shifted = rounded_same (q * 2 ^ x * 32767) one (q * 32767) (2 ^ (149 - x)) (pow_pos 149) (pow_pos (149 - x)) (over (2 ^ x) (2 ^ (149 - x)) one power)
    where
      power : 2 ^ x * 2 ^ (149 - x) ≡ one
      power = sym (pow-add 2 x (149 - x)) ∙ ap (λ (k : ℕ). 2 ^ k) (add-sub_of_le reaches)

      over : (s t u : ℕ) → s * t ≡ u → q * s * 32767 * t ≡ q * 32767 * u
      over s t u e = rw (← e, mul_right_comm (q * s) 32767 t, mul_assoc q s t, mul_right_comm q (s * t) 32767)

  pub pcm_digits : {y : Float} → At y (q * 2 ^ x) → pcm_of y ≡ pos (rounded (q * 32767) (2 ^ (149 - x)))
  pcm_digits p = pcm_at p (le_of_lt (lt_of_lt_of_le (shl_lt 24 x few) (pow_mono room))) ∙ ap pos shifted
    where
      room : 24 + x ≤ 149
      room = omega arith

  -- less than half of 1 / 32,767
  pub pcm_none : {y : Float} → At y (q * 2 ^ x) → x ≤ 108 → pcm_of y ≡ pos 0
  pcm_none p h = pcm_digits p ∙ ap pos (rounded_none (q * 32767) (2 ^ (149 - x)) (pow_pos (149 - x)) (lt_of_lt_of_le (product q few) (pow_mono far)))
    where
      product : (q : ℕ) → q < 16777216 → q * 32767 * 2 < 1099511627776
      product q h = omega arith

      far : 40 ≤ 149 - x
      far = omega arith

  pub pcm_most : rounded (q * 32767) (2 ^ (149 - x)) ≤ 32767
  pcm_most = rounded_most (q * 32767) (2 ^ (149 - x)) 32767 (pow_pos (149 - x)) (times (2 ^ (149 - x)) (lt_of_lt_of_le few (pow_mono far)))
    where
      far : 24 ≤ 149 - x
      far = omega arith

      times : (u : ℕ) → q < u → q * 32767 ≤ 32767 * u
      times u h = omega arith

-- the cases of the code
module _ (b : ℕ) (small : b < 2147483648) where
  digits_none : b % 8388608 < 16777216
  digits_none = omega arith

  digits_some : 8388608 + b % 8388608 < 16777216
  digits_some = omega arith

  -- a NaN's bits
  pub bits_nan : 2139095040 < b → pcm_of (f32 b) ≡ pos 0
  bits_nan h = pcm_nan (f32 b) (sym (nan_bits_is binary32 b) ∙ nan_bits_above binary32 b ∙ rw (mod-eq_of_lt small) (lt-ltb 2139095040 b h))

  -- 1 and more, an infinity last
  pub bits_over : 1065353216 ≤ b → b ≤ 2139095040 → pcm_of (f32 b) ≡ pos 32767
  bits_over l h = elim (eq-or-lt_of_le h) [ inl e ↦ rw e pcm_infinite | inr k ↦ go k (b / 8388608) refl ]
    where
      go : b < 2139095040 → (f : ℕ) → b / 8388608 ≡ f → pcm_of (f32 b) ≡ pos 32767
      go k zero e = absurd (omega arith)
      go k (suc x) e =
          let digits : 8388608 ≤ 8388608 + b % 8388608 = omega arith in
          let power : 2 ^ 126 ≤ 2 ^ x = pow_mono {i = 126} (omega arith) in
          pcm_over (field_some b small x e (omega arith)) (mul-le-mul digits power)

  -- a field below 110
  pub bits_low : b / 8388608 < 110 → pcm_of (f32 b) ≡ pos 0
  bits_low h = go (b / 8388608) refl
    where
      go : (f : ℕ) → b / 8388608 ≡ f → pcm_of (f32 b) ≡ pos 0
      go zero e = pcm_none (b % 8388608) 0 digits_none (lit≤ tt) (field_none b small e) (lit≤ tt)
      go (suc x) e = pcm_none (8388608 + b % 8388608) x digits_some (omega arith) (field_some b small x e (omega arith)) (omega arith)

  -- the others below 1
  pub bits_high : b < 1065353216 → 110 ≤ b / 8388608
      → (pcm_of (f32 b) ≡ pos (rounded ((b % 8388608 + 8388608) * 32767) (2 ^ (150 - b / 8388608)))) × (rounded ((b % 8388608 + 8388608) * 32767) (2 ^ (150 - b / 8388608)) ≤ 32767)
  bits_high l h = go (b / 8388608) refl
    where
      go : (f : ℕ) → b / 8388608 ≡ f → (pcm_of (f32 b) ≡ pos (rounded ((b % 8388608 + 8388608) * 32767) (2 ^ (150 - f)))) × (rounded ((b % 8388608 + 8388608) * 32767) (2 ^ (150 - f)) ≤ 32767)
      go zero e = absurd (omega arith)
      go (suc x) e =
          rw (add_comm (b % 8388608) 8388608, suc-sub-suc 149 x)
          (pcm_digits (8388608 + b % 8388608) x digits_some (omega arith) (field_some b small x e (omega arith)), pcm_most (8388608 + b % 8388608) x digits_some (omega arith))

-- as the code has it: the product and the power are rounded
pub below : (b v u r : ℕ) → b < 1065353216 → 110 ≤ b / 8388608 → v ≡ (b % 8388608 + 8388608) * 32767 → u ≡ 2 ^ (150 - b / 8388608) → r ≡ rounded v u → (pos r ≡ pcm_of (f32 b)) × (r ≤ 32767)
below b v u r l h p q e = rw (e, p, q) (let is = bits_high b (omega arith) l h in (sym is.0, is.1))
