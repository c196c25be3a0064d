-- The bits of a float from 1 up and below 131,072: an exponent's field, and 23 digits below the leading one. The whole part is what stands before the point.
-- Assumes nothing.
use mathlib.Core.Path.{◌≡◌, refl, sym, ap, ◌∙◌, subst}
use mathlib.Core.Bool.{true, false}
use Prim.Native.Nat.{ℕ, ◌+◌, ◌*◌, ◌/◌, ◌%◌, ◌^◌, ◌≤◌, ◌<◌, ◌-◌}
use native.Mathlib.Nat as Nat
use native.Mathlib.Nat.{le_of_eq, lt_of_le_of_lt, div-lt_iff_lt-mul, not-le_of_lt, le_of_mul-le-mul_right, lt_of_mul-lt-mul_right, mul-div_cancel, mul-div-mul_right, zero-add}
use native.Mathlib.Omega.{arith}
use lib.Dec.{T}
use lib.Pow.{pow-add, pow_pos}
use lib.Ieee.{Float, nan, inf, fin, binary32, down, size, to_bits, of_bits, fits, le, lt}
use lib.Ieee.Digits.{size-lt, size-le, size_reaches}
use lib.Ieee.Fits.{down_pos}
use Rattle.floats.specs.F32.{f32, zero32, one32}
use Rattle.floats.proofs.At.{At, Reads, at_even}
use Rattle.floats.proofs.Order.{le_trans}
use Rattle.floats.proofs.Ticks.{tick, one_at, pow_lt_inv, coarse}
use Rattle.floats.proofs.Ranges.{under_of, at_least_0, passed_le}
use Rattle.whole_part.specs.WholePart.{whole_part}
use Rattle.whole_part.proofs.Exact.{whole_part_at}

-- the bits of a value of n units, 1 or more
bits_is : (x : Float) (n : ℕ) → Reads x n → 2 ^ 149 ≤ n → to_bits binary32 x ≡ (size n - 24) * 8388608 + n / 2 ^ (size n - 24)
unfolding to_bits
bits_is nan n r h = absurd r
bits_is (inf s) n r h = absurd r
bits_is (fin true m e) n r h = absurd (not-le_of_lt (pow_pos 149) (subst (λ (k : ℕ). 2 ^ 149 ≤ k) r.1 h))
bits_is (fin false m e) n r h =
    ap (λ (k : ℕ). 0 + (size k - 24) * 8388608 + k / 2 ^ (size k - 24)) (ap (λ (k : ℕ). k / down e) r ∙ mul-div_cancel n (down_pos e))
    ∙ ap (λ (k : ℕ). k + n / 2 ^ (size n - 24)) (zero-add ((size n - 24) * 8388608))

-- n is r * 2 ^ k, with an r of 24 digits
pub record Written (x : Float) (n : ℕ) : Type 0 where
  pub k : ℕ
  pub r : ℕ
  pub is : n ≡ r * 2 ^ k
  pub bits : to_bits binary32 x ≡ k * 8388608 + r
  pub low : 8388608 ≤ r
  pub high : r < 16777216
  pub from : 126 ≤ k
  pub to : k ≤ 142

written : {x : Float} {n : ℕ} → At x n → 2 ^ 149 ≤ n → n < 2 ^ 166 → Written x n
written {x} {n} p lo hi =
    let from : 149 < size n = pow_lt_inv 149 (size n) (lt_of_le_of_lt lo (size-lt n)) in
    let to : size n ≤ 166 = size-le n 166 hi in
    go (size n - 24) (omega arith) (size_reaches n) (size-lt n) (omega arith) (omega arith) (bits_is x n p.reads lo)
  where
    go : (k : ℕ) → size n ≡ 24 + k → ((j : ℕ) → j < size n → 2 ^ j ≤ n) → n < 2 ^ size n → 126 ≤ k → k ≤ 142 → to_bits binary32 x ≡ k * 8388608 + n / 2 ^ k → Written x n
    go k z reach top from to bits =
        let c = coarse k (at_even p) (reach (23 + k) (omega arith)) in
        let q : n / 2 ^ k ≡ c.0 = ap (λ (i : ℕ). i / 2 ^ k) c.1 ∙ mul-div_cancel c.0 (pow_pos k) in
        record {
          k = k;
          r = c.0;
          is = c.1;
          bits = bits ∙ ap (λ (i : ℕ). k * 8388608 + i) q;
          low = le_of_mul-le-mul_right (Nat.le_trans (le_of_eq (sym (pow-add 2 23 k))) (subst (λ (i : ℕ). 2 ^ (23 + k) ≤ i) c.1 (reach (23 + k) (omega arith)))) (pow_pos k);
          high = lt_of_mul-lt-mul_right (2 ^ k) (subst (λ (i : ℕ). i < 2 ^ 24 * 2 ^ k) c.1 (subst (λ (i : ℕ). n < i) (ap (λ (i : ℕ). 2 ^ i) z ∙ pow-add 2 24 k) top));
          from = from;
          to = to;
        }

-- ---- a float that passed the tests `1.0 <= x` and `x < 131072.0`
pub record Between (x : Float) : Type 0 where
  pub n : ℕ
  pub digits : Written x n
  pub whole : whole_part x ≡ n / 2 ^ 149

top_at : At (f32 0x4800_0000) (2 ^ 166)
unfolding fits of_bits
top_at = record { fit = tt; reads = refl }

pub between : (x : Float) → fits binary32 x ≡ true → (le one32 x ≡ true) × (lt x (f32 0x4800_0000) ≡ true) → Between x
unfolding tick
between x t h =
    let u = under_of (subst T (sym t) tt) (le_trans zero32 one32 x (at_least_0 one_at) h.0) h.1 top_at in
    let small : u.n / 2 ^ 149 < 131072 = (div-lt_iff_lt-mul (pow_pos 149)).1 u.under in
    record {
      n = u.n;
      digits = written u.at (passed_le one_at u.at h.0) u.under;
      whole = whole_part_at u.at small;
    }

-- the field is the exponent and 127, and of the 24 digits one more than the exponent stands before the point
module _ {x : Float} (b : Between x) where
  abbrev exponent : ℕ
  exponent = to_bits binary32 x / 8388608 - 127

  pub field_range : (127 ≤ to_bits binary32 x / 8388608) × (to_bits binary32 x / 8388608 ≤ 143)
  field_range = (omega arith, omega arith)

  exponent_is : exponent + 126 ≡ b.digits.k
  exponent_is = omega arith

  digits_is : to_bits binary32 x % 8388608 + 8388608 ≡ b.digits.r
  digits_is = omega arith

  shift_is : 2 ^ 149 ≡ 2 ^ (23 - exponent) * 2 ^ b.digits.k
  shift_is =
      let e : 149 ≡ 23 - exponent + b.digits.k = omega (arith, exponent_is) in
      ap (λ (i : ℕ). 2 ^ i) e ∙ pow-add 2 (23 - exponent) b.digits.k

  pub whole_is : (to_bits binary32 x % 8388608 + 8388608) / 2 ^ (23 - exponent) ≡ whole_part x
  whole_is =
      ap (λ (i : ℕ). i / 2 ^ (23 - exponent)) digits_is
      ∙ sym (mul-div-mul_right b.digits.r (2 ^ (23 - exponent)) (pow_pos b.digits.k))
      ∙ ap (λ (i : ℕ). b.digits.r * 2 ^ b.digits.k / i) (sym shift_is)
      ∙ ap (λ (i : ℕ). i / 2 ^ 149) (sym b.digits.is)
      ∙ sym b.whole
