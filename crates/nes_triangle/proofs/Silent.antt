-- Where the NES triangle's gain is a zero of either sign, a step of it is no discontinuity, whichever way it goes. Assumes nothing.
use Rattle.std.proofs.Common.{◌≡◌, ℕ, ◌+◌, ◌-◌, ◌*◌, ◌^◌, ◌<◌, false, ◌||◌, T, eqb, ltb, sym, ◌∙◌, subst, true≢false, mul-zero, arith, lit<, pow_pos, eqb-true}
use mathlib.Core.Bool.{and-false}
use borrow.Author.Tests.{not-false}
use lib.Ieee.{Float, nan, inf, fin, binary32, fits, ne, neg, of_bits}
use lib.Ieee.Scale.{finite}
use Rattle.floats.specs.F32.{◌⊗◌, zero32, one32}
use Rattle.floats.proofs.Bools.{cond_both}
use Rattle.floats.proofs.Rounding.{rnd, rnd_zero}
use Rattle.floats.proofs.Signed.{Is, huge, neg_is, eq_is, mul_is, is_of}
use Rattle.floats.proofs.At.{At, is_at, at_is}
use Rattle.floats.proofs.Ticks.{cycle, zero_at, one_at}
use Rattle.nes_triangle.specs.declared.sample.Samples.{Samples}
use Rattle.nes_triangle.specs.declared.sample.Stepped.{Stepped}
use Rattle.nes_triangle.specs.Sample.{direction_of, step_sign, edge_of}

-- a finite value, of p - q units
abbrev Number : Float → Type 0
Number x = (p : ℕ) × (q : ℕ) × Is x p q

direction_number : (next half : ℕ) → Number (direction_of next half)
direction_number next half = cond_both Number (ltb next half) one32 (neg one32) (cycle, 0, is_at one_at) (0, cycle, neg_is (is_at one_at))

sign_number : (n half next : ℕ) → Number (step_sign n half next)
sign_number n half next =
    let d = direction_number next half in
    cond_both Number (eqb n 2) _ _ (d.1, d.0, neg_is d.2) (cond_both Number (eqb next 0 || eqb next half) zero32 _ (0, 0, is_at zero_at) d)

-- what is not unequal to 0 is no infinity and no NaN
zero_finite : (y : Float) → ne y zero32 ≡ false → T (finite y)
unfolding ne of_bits
zero_finite nan h = absurd (true≢false h)
zero_finite (inf s) h = absurd (true≢false h)
zero_finite (fin s m e) h = tt

-- so that it is either zero
zero_is : (y : Float) → T (fits binary32 y) → ne y zero32 ≡ false → Is y 0 0
unfolding ne
zero_is y t h =
    let v = is_of y t (zero_finite y h) in
    let same : v.0 + 0 ≡ 0 + v.1 = eqb-true _ _ (sym (eq_is v.2 (is_at zero_at)) ∙ not-false _ h) in
    let none : v.0 - v.1 ≡ 0 = omega arith in
    is_at (subst (At y) none (at_is v.2 (omega arith)))

-- and so is every product by it
product_zero : (x y : Float) → Number x → T (fits binary32 y) → ne y zero32 ≡ false → ne (x ⊗ y) zero32 ≡ false
unfolding ne
product_zero x y v t h =
    let none : (k : ℕ) → rnd (k * 0) (2 ^ 149) ≡ 0 = λ k. rnd_zero (2 ^ 149) (pow_pos 149) (mul-zero k) in
    let small : (k : ℕ) → rnd (k * 0) (2 ^ 149) < huge = λ k. rw (none k) (lit< tt) in
    let z = mul_is v.2 (zero_is y t h) (small _) (small _) in
    rw (eq_is z (is_at zero_at), none (v.0 - v.1), none (v.1 - v.0))

pub silent : (n half : ℕ) (t : Stepped) (numStepsF frequency gain : Float) (x : Samples) → T (fits binary32 gain) → ne gain zero32 ≡ false
    → x ≡ edge_of t numStepsF frequency (step_sign n half t.next_step ⊗ gain) x
unfolding edge_of
silent n half t numStepsF frequency gain x f h = rw (product_zero _ gain (sign_number n half t.next_step) f h, and-false)
