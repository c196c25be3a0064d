-- A value's range, from the tests that code makes, and the tests from the range. A test is an equation, `lt x y ≡ true`, as an `if` gives it.
-- Then what a reset needs: quotients of at most 1, and products by them. Assumes nothing.
use mathlib.Core.Path.{◌≡◌, sym, ◌∙◌}
use Prim.Native.Nat.{ℕ, ◌*◌, ◌^◌, ◌≤◌, ◌<◌, zero-le}
use native.Mathlib.Nat.{le_trans, le_of_eq, lt_of_le_of_lt, zero-lt-suc, mul-one, mul_comm, mul-le-mul_left, mul-le-mul_right}
use native.Mathlib.Omega.{arith}
use borrow.Author.Tests.{ltb-true, ltb-false, leb-true, leb-false, lt-ltb, le-leb}
use mathlib.Core.Bool.{true, false, true≢false}
use lib.Dec.{T, lit<}
use lib.Pow.{pow_pos}
use lib.Ieee.{Float, nan, inf, fin, binary32, lt, le, fits}
use lib.Ieee.Scale.{finite}
use Rattle.floats.specs.F32.{◌⊕◌, ◌⊖◌, ◌⊗◌, ◌⊘◌, zero32, one32}
use Rattle.floats.proofs.Rounding.{rnd, rnd_mono, rnd_exact}
use Rattle.floats.proofs.Order.{lt→le}
use Rattle.floats.proofs.Signed.{Is}
use Rattle.floats.proofs.At.{At, is_at, size_of, at_of, at_rnd, at_huge, mul_at, div_at, lt_at, le_at}
use Rattle.floats.proofs.Ticks.{tick, cycle, zero_at, one_at, wrap_1, below_one}
use Rattle.floats.proofs.PhaseSteps.{wraps_at_1, phase_sum}

pub record Under (x : Float) (B : ℕ) : Type 0 where
  pub n : ℕ
  pub at : At x n
  pub under : n < B

pub record UpTo (x : Float) (B : ℕ) : Type 0 where
  pub n : ℕ
  pub at : At x n
  pub most : n ≤ B

pub record Positive (x : Float) (B : ℕ) : Type 0 where
  pub n : ℕ
  pub at : At x n
  pub some : 0 < n
  pub most : n ≤ B

-- ---- a test between two values, and their numbers
module _ {x y : Float} {a b : ℕ} (p : At x a) (q : At y b) where
  pub passed_lt : lt x y ≡ true → a < b
  passed_lt h = ltb-true a b (sym (lt_at p q) ∙ h)

  pub passed_le : le x y ≡ true → a ≤ b
  passed_le h = leb-true a b (sym (le_at p q) ∙ h)

  pub failed_lt : lt x y ≡ false → b ≤ a
  failed_lt h = ltb-false a b (sym (lt_at p q) ∙ h)

  pub failed_le : le x y ≡ false → b < a
  failed_le h = leb-false a b (sym (le_at p q) ∙ h)

  pub passes_lt : a < b → lt x y ≡ true
  passes_lt h = lt_at p q ∙ lt-ltb a b h

  pub passes_le : a ≤ b → le x y ≡ true
  passes_le h = le_at p q ∙ le-leb a b h

pub at_least_0 : {x : Float} {n : ℕ} → At x n → le zero32 x ≡ true
at_least_0 p = passes_le zero_at p zero-le

-- ---- from the tests to the range
pub finite_within : (low x high : Float) {a b c d : ℕ} → Is low a b → Is high c d → le low x ≡ true → le x high ≡ true → T (finite x)
unfolding le
finite_within low nan high A C h k = absurd (true≢false (sym k))
finite_within nan (inf true) high A C h k = absurd A.value
finite_within (inf s) (inf true) high A C h k = absurd A.value
finite_within (fin s m e) (inf true) high A C h k = absurd (true≢false (sym h))
finite_within low (inf false) nan A C h k = absurd C.value
finite_within low (inf false) (inf s) A C h k = absurd C.value
finite_within low (inf false) (fin s m e) A C h k = absurd (true≢false (sym k))
finite_within low (fin s m e) high A C h k = tt

module _ {x y : Float} {b : ℕ} (t : T (fits binary32 x)) where
  pub at_le : le zero32 x ≡ true → le x y ≡ true → At y b → At x (size_of x)
  at_le h k q = at_of x t (finite_within zero32 x y (is_at zero_at) (is_at q) h k) h

  pub under_of : le zero32 x ≡ true → lt x y ≡ true → At y b → Under x b
  under_of h k q = let p = at_le h (lt→le x y k) q in record { n = size_of x; at = p; under = passed_lt p q k }

  pub upto_of : le zero32 x ≡ true → le x y ≡ true → At y b → UpTo x b
  upto_of h k q = let p = at_le h k q in record { n = size_of x; at = p; most = passed_le p q k }

  pub positive_of : lt zero32 x ≡ true → le x y ≡ true → At y b → Positive x b
  positive_of h k q = let p = at_le (lt→le zero32 x h) k q in record { n = size_of x; at = p; some = passed_lt zero_at p h; most = passed_le p q k }

-- ---- and back, for a bound y
module _ {x y : Float} {b : ℕ} (q : At y b) where
  pub under_lt : Under x b → lt x y ≡ true
  under_lt r = passes_lt r.at q r.under

  pub positive_le : Positive x b → le x y ≡ true
  positive_le r = passes_le r.at q r.most

-- ---- quotients and products for a reset
-- x / y ≤ 1 for x ≤ y
pub div_one : {x y : Float} {a b : ℕ} → At x a → At y b → 0 < b → a ≤ b → UpTo (x ⊘ y) cycle
unfolding tick
div_one {a = a} {b = b} p q B h =
    let l : rnd (a * 2 ^ 149) b ≤ 2 ^ 149 =
    le_trans (rnd_mono (a * 2 ^ 149) b (2 ^ 149) 1 B (zero-lt-suc 0) (le_trans (le_of_eq (mul-one (a * 2 ^ 149))) (le_trans (mul-le-mul_right (2 ^ 149) h) (le_of_eq (mul_comm b (2 ^ 149))))))
    (le_of_eq (rnd_exact 1 149 (lit< tt))) in
    record { n = rnd (a * 2 ^ 149) b; at = div_at p q B (lt_of_le_of_lt l (lit< tt)); most = l }

-- a product by at most 1, in either order
product_le : {x : Float} {a b : ℕ} → At x a → b ≤ cycle → rnd (a * b) (2 ^ 149) ≤ a
unfolding tick
product_le {a = a} {b = b} p h =
    le_trans (rnd_mono (a * b) (2 ^ 149) a 1 (pow_pos 149) (zero-lt-suc 0) (le_trans (le_of_eq (mul-one (a * b))) (mul-le-mul_left a h))) (le_of_eq (at_rnd p))

pub mul_le : {x y : Float} {a b : ℕ} → At x a → At y b → a ≤ cycle → UpTo (x ⊗ y) b
mul_le {a = a} {b = b} p q h =
    let l : rnd (a * b) (2 ^ 149) ≤ b = rw (mul_comm a b) (product_le q h) in
    record { n = rnd (a * b) (2 ^ 149); at = mul_at p q (lt_of_le_of_lt l (at_huge q)); most = l }

pub mul_le_left : {x y : Float} {a b : ℕ} → At x a → At y b → b ≤ cycle → UpTo (x ⊗ y) a
mul_le_left {a = a} {b = b} p q h =
    let l = product_le p h in
    record { n = rnd (a * b) (2 ^ 149); at = mul_at p q (lt_of_le_of_lt l (at_huge p)); most = l }

-- and at least z, which the exact product reaches
pub mul_ge : {x y z : Float} {a b c : ℕ} → At x a → At y b → At z c → a ≤ cycle → c * 2 ^ 149 ≤ a * b → le z (x ⊗ y) ≡ true
mul_ge {a = a} {b = b} {c = c} p q r h l =
    passes_le r (mul_at p q (lt_of_le_of_lt (rw (mul_comm a b) (product_le q h)) (at_huge q)))
    (le_trans (le_of_eq (sym (at_rnd r))) (rnd_mono c 1 (a * b) (2 ^ 149) (zero-lt-suc 0) (pow_pos 149) (le_trans l (le_of_eq (sym (mul-one (a * b)))))))

-- after a wrap the phase is the step at most, so the reset time is at most 1
pub reset_time_lem : {p f : Float} {a b : ℕ} → At p a → At f b → 0 < b → a < cycle → b ≤ 4456448 * tick → le one32 (p ⊕ f) ≡ true → UpTo ((p ⊕ f ⊖ one32) ⊘ f) cycle
reset_time_lem P F B hp hf t =
    let s = phase_sum wraps_at_1 P F (omega arith) in
    let h : cycle ≤ s.n = passed_le one_at s.at t in
    div_one (wrap_1 s.at h (omega (arith, s.top))) F B (omega (arith, s.near, below_one P hp))
