-- Products by a power of two, which are exact, and whole parts. Together they decide a wrap by `(s * 2 ^ b) as u32 >= 2 ^ b`. Assumes nothing.
use mathlib.Core.Path.{◌≡◌, sym, ap, ◌∙◌, subst}
use Prim.Native.Nat.{ℕ, ◌+◌, ◌*◌, ◌/◌, ◌^◌, ◌<◌, min, ◌-◌}
use native.Mathlib.Nat.{zero-lt-suc, zero-div, mul-one, mul_comm, mul_assoc, mul-le-mul_right, le_of_mul-le-mul_right, le-div_iff_mul-le}
use native.Mathlib.Omega.{arith}
use borrow.Author.Tests.{leb-true, le-leb}
use mathlib.Core.Bool.{true, false}
use lib.Dec.{leb}
use lib.Pow.{pow-add, pow_pos}
use lib.Ieee.{Float, nan, inf, fin, up, down, to_unsigned}
use lib.Ieee.Fits.{down_pos}
use lib.Ieee.Nearest.{div_same}
use Rattle.floats.specs.F32.{◌⊗◌}
use Rattle.floats.proofs.Rounding.{rnd, rnd_same, rnd_exact}
use Rattle.floats.proofs.Bools.{same_bool}
use Rattle.floats.proofs.At.{At, Reads, huge, at_even, mul_at}

-- a product by 2 ^ b
pub mul_pow : {x y : Float} {n : ℕ} (b : ℕ) → At x n → At y (2 ^ b * 2 ^ 149) → n * 2 ^ b < huge → At (x ⊗ y) (n * 2 ^ b)
mul_pow {x} {y} {n} b p q h = subst (λ (k : ℕ). At (x ⊗ y) k) exact (mul_at p q (subst (λ (k : ℕ). k < huge) (sym exact) h))
  where
    is : n * 2 ^ b ≡ (at_even p).q * 2 ^ ((at_even p).j + b)
    is = let e = at_even p in ap (λ (k : ℕ). k * 2 ^ b) e.is ∙ mul_assoc e.q (2 ^ e.j) (2 ^ b) ∙ ap (λ (k : ℕ). e.q * k) (sym (pow-add 2 e.j b))

    exact : rnd (n * (2 ^ b * 2 ^ 149)) (2 ^ 149) ≡ n * 2 ^ b
    exact =
        let e = at_even p in
        rnd_same (n * (2 ^ b * 2 ^ 149)) (2 ^ 149) (n * 2 ^ b) 1 (pow_pos 149) (zero-lt-suc 0) (mul-one (n * (2 ^ b * 2 ^ 149)) ∙ sym (mul_assoc n (2 ^ b) (2 ^ 149)))
        ∙ ap (λ (k : ℕ). rnd k 1) is ∙ rnd_exact e.q (e.j + b) e.small ∙ sym is

capped : (c k p : ℕ) → c ≡ k → k < p → min c (p - 1) ≡ k
capped c k p e h = omega arith

-- the whole part, as Rust's `as` takes it to an unsigned integer of w bits
pub unsigned_at : {x : Float} {n : ℕ} (w : ℕ) → At x n → n / 2 ^ 149 < 2 ^ w → to_unsigned w x ≡ n / 2 ^ 149
unfolding to_unsigned
unsigned_at {x} {n} w p h = go x p.reads
  where
    go : (x : Float) → Reads x n → to_unsigned w x ≡ n / 2 ^ 149
    go nan r = absurd r
    go (inf s) r = absurd r
    go (fin true m e) r = sym (ap (λ (k : ℕ). k / 2 ^ 149) r.1 ∙ zero-div (2 ^ 149))
    go (fin false m e) r = capped (m * up e / down e) (n / 2 ^ 149) (2 ^ w) (div_same (m * up e) (down e) n (2 ^ 149) (down_pos e) (pow_pos 149) r) h

-- a whole part is c or more exactly where the value is
pub whole_le : (c n : ℕ) → leb c (n / 2 ^ 149) ≡ leb (c * 2 ^ 149) n
whole_le c n =
    same_bool (leb c (n / 2 ^ 149)) (leb (c * 2 ^ 149) n)
    (λ h. le-leb (c * 2 ^ 149) n ((le-div_iff_mul-le (pow_pos 149)).0 (leb-true c (n / 2 ^ 149) h)))
    (λ h. le-leb c (n / 2 ^ 149) ((le-div_iff_mul-le (pow_pos 149)).1 (leb-true (c * 2 ^ 149) n h)))

-- so that of n * 2 ^ b units is 2 ^ b or more exactly where n is 1.0 or more
pub whole_pow : (n b : ℕ) → leb (2 ^ b) (n * 2 ^ b / 2 ^ 149) ≡ leb (2 ^ 149) n
whole_pow n b =
    let swap : 2 ^ b * 2 ^ 149 ≡ 2 ^ 149 * 2 ^ b = mul_comm (2 ^ b) (2 ^ 149) in
    whole_le (2 ^ b) (n * 2 ^ b) ∙ ap (λ (k : ℕ). leb k (n * 2 ^ b)) swap
    ∙ same_bool (leb (2 ^ 149 * 2 ^ b) (n * 2 ^ b)) (leb (2 ^ 149) n)
    (λ h. le-leb (2 ^ 149) n (le_of_mul-le-mul_right (leb-true (2 ^ 149 * 2 ^ b) (n * 2 ^ b) h) (pow_pos b)))
    (λ h. le-leb (2 ^ 149 * 2 ^ b) (n * 2 ^ b) (mul-le-mul_right (2 ^ b) (leb-true (2 ^ 149) n h)))
