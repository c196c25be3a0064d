-- binary32 values that are not negative. `At x n` says that x fits binary32, is finite, is not below zero (either zero will do), and is n units of 2 ^ -149.
-- Each operation on such values is `rnd` on the numbers, and each comparison is the numbers' comparison. Assumes nothing.
use mathlib.Core.Path.{◌≡◌, refl, sym, ap, ◌∙◌, subst}
use Prim.Native.Nat.{ℕ, zero, suc, ◌+◌, ◌*◌, ◌^◌, ◌≤◌, ◌<◌, zero-le, ◌-◌}
use native.Mathlib.Nat.{lt_irrefl, zero-lt-suc, zero-mul, mul_right_comm, mul-pos, mul-lt-mul_of_pos_right, lt_of_mul-lt-mul_right, eq_of_mul-eq-mul_right, add-zero, sub-zero}
use native.Mathlib.Omega.{arith}
use borrow.Author.Tests.{leb-true}
use mathlib.Core.Bool.{true, false}
use lib.IntN.{pos, nat_abs, +ℤ_idr}
use lib.Dec.{T, ltb, leb, lit<}
use lib.Pow.{pow_pos}
use lib.Ieee.{Float, nan, inf, fin, binary32, up, down, lt, le, fits, of_bits}
use lib.Ieee.Fits.{up_pos, down_pos}
use lib.Ieee.Scale.{finite}
use Rattle.floats.specs.F32.{◌⊕◌, ◌⊖◌, ◌⊗◌, ◌⊘◌, zero32}
use Rattle.floats.specs.Units.{units}
use Rattle.floats.proofs.Rounding.{rnd, rnd_zero, rnd_exact}
use Rattle.floats.proofs.Values.{Value}
use Rattle.floats.proofs.Held.{held}
use Rattle.floats.proofs.Signed.{Is, add_is, sub_is, mul_is, div_is, lt_is, le_is, alone, is_units, is_of}
pub use Rattle.floats.proofs.Signed.{huge}

-- x is finite, not below zero, and n units
abbrev pub Reads : Float → ℕ → Type 0
Reads nan n = ⊥
Reads (inf s) n = ⊥
Reads (fin true m e) n = (m ≡ 0) × (n ≡ 0)
Reads (fin false m e) n = m * up e * 2 ^ 149 ≡ n * down e

pub record At (x : Float) (n : ℕ) : Type 0 where
  pub fit : T (fits binary32 x)
  pub reads : Reads x n

-- ---- as a value of either sign, and back
first_zero : (n u : ℕ) → 0 < u → n * u ≡ 0 → n ≡ 0
first_zero zero u U e = refl
first_zero (suc n) u U e = absurd (lt_irrefl 0 (subst (λ (z : ℕ). 0 < z) e (mul-pos (zero-lt-suc n) U)))

pub is_at : {x : Float} {n : ℕ} → At x n → Is x n 0
is_at {x} {n} p = record { fit = p.fit; value = go x p.reads }
  where
    go : (x : Float) → Reads x n → Value (2 ^ 149) x n 0
    go nan r = r
    go (inf s) r = r
    go (fin true m e) r = record { n = 0; size = simp (r.0, zero-mul); split = rw r.1 refl }
    go (fin false m e) r = record { n = n; size = r; split = add-zero n }

pub at_is : {x : Float} {p q : ℕ} → Is x p q → q ≤ p → At x (p - q)
at_is {x} {p} {q} X h = record { fit = X.fit; reads = go x X.value }
  where
    plus : (n : ℕ) → n + q ≡ p → n ≡ p - q
    plus n e = omega arith

    minus : (n : ℕ) → n + p ≡ q → (n ≡ 0) × (p - q ≡ 0)
    minus n e = omega arith

    go : (x : Float) → Value (2 ^ 149) x p q → Reads x (p - q)
    go nan v = v
    go (inf s) v = v
    go (fin false m e) v = v.size ∙ ap (λ (k : ℕ). k * down e) (plus v.n v.split)
    go (fin true m e) v =
        let z = minus v.n v.split in
        (first_zero m (up e) (up_pos e) (first_zero (m * up e) (2 ^ 149) (pow_pos 149) (v.size ∙ ap (λ (k : ℕ). k * down e) z.0 ∙ zero-mul (down e))), z.1)

-- ---- the operations
-- what `Is` says of a result whose numbers, before g rounds them, differ by n
plain : {z : Float} (g : ℕ → ℕ) (n P Q : ℕ) → g 0 ≡ 0 → P ≡ n + Q → g n < huge → (g (P - Q) < huge → g (Q - P) < huge → Is z (g (P - Q)) (g (Q - P))) → At z (g n)
plain {z} g n P Q g0 e h f =
    subst (λ (k : ℕ). At z k) (rw (minus.0, minus.1, g0) (sub-zero (g n)))
    (at_is (f (rw minus.0 h) (rw (minus.1, g0) (lit< tt))) (rw (minus.1, g0) zero-le))
  where
    minus : (P - Q ≡ n) × (Q - P ≡ 0)
    minus = omega arith

pub add_at : {x y : Float} {a b : ℕ} → At x a → At y b → rnd (a + b) 1 < huge → At (x ⊕ y) (rnd (a + b) 1)
add_at {a = a} {b = b} p q h = plain (λ i. rnd i 1) (a + b) (a + b) (0 + 0) (rnd_zero 1 (zero-lt-suc 0) refl) (omega arith) h (add_is (is_at p) (is_at q))

pub sub_at : {x y : Float} {a b : ℕ} → At x a → At y b → b ≤ a → rnd (a - b) 1 < huge → At (x ⊖ y) (rnd (a - b) 1)
sub_at {a = a} {b = b} p q l h = plain (λ i. rnd i 1) (a - b) (a + 0) (0 + b) (rnd_zero 1 (zero-lt-suc 0) refl) (omega arith) h (sub_is (is_at p) (is_at q))

pub mul_at : {x y : Float} {a b : ℕ} → At x a → At y b → rnd (a * b) (2 ^ 149) < huge → At (x ⊗ y) (rnd (a * b) (2 ^ 149))
mul_at {a = a} {b = b} p q h = plain (λ i. rnd (i * b) (2 ^ 149)) a a 0 (rnd_zero (2 ^ 149) (pow_pos 149) (zero-mul b)) (omega arith) h (mul_is (is_at p) (is_at q))

pub div_at : {x y : Float} {a b : ℕ} → At x a → At y b → 0 < b → rnd (a * 2 ^ 149) b < huge → At (x ⊘ y) (rnd (a * 2 ^ 149) b)
div_at {a = a} {b = b} p q l h = plain (λ i. rnd (i * 2 ^ 149) b) a a 0 (rnd_zero b l (zero-mul (2 ^ 149))) (omega arith) h (div_is (is_at p) (is_at q) l)

-- ---- the tests
module _ {x y : Float} {a b : ℕ} (p : At x a) (q : At y b) where
  pub lt_at : lt x y ≡ ltb a b
  lt_at = simp add-zero at (lt_is (is_at p) (is_at q))

  pub le_at : le x y ≡ leb a b
  le_at = simp add-zero at (le_is (is_at p) (is_at q))

-- ---- the number is the value's
pub at_units : {x : Float} {n : ℕ} → At x n → units x ≡ pos n
at_units {x} {n} p = is_units (is_at p) ∙ +ℤ_idr (pos n)

-- how many units x is, without its sign
unfoldable pub size_of : Float → ℕ
size_of x = nat_abs (units x)

pub at_size : {x : Float} {n : ℕ} → At x n → size_of x ≡ n
unfolding size_of
at_size p = ap nat_abs (at_units p)

pub at_unique : {x : Float} {m n : ℕ} → At x m → At x n → m ≡ n
at_unique p q = sym (at_size p) ∙ at_size q

pub zero_at : At zero32 0
unfolding of_bits fits
zero_at = record { fit = tt; reads = refl }

-- from the test `0 <= x`
pub at_of : (x : Float) → T (fits binary32 x) → T (finite x) → le zero32 x ≡ true → At x (size_of x)
at_of x t f h =
    let v = is_of x t f in
    let p = at_is v.2 (omega (arith, leb-true (0 + v.1) (v.0 + 0) (sym (le_is (is_at zero_at) v.2) ∙ h))) in
    subst (λ (k : ℕ). At x k) (sym (at_size p)) p

-- ---- every value that binary32 holds is q * 2 ^ j units with a q of 24 digits
pub record Even (n : ℕ) : Type 0 where
  pub q : ℕ
  pub j : ℕ
  pub small : q < 2 ^ 24
  pub is : n ≡ q * 2 ^ j

pub at_even : {x : Float} {n : ℕ} → At x n → Even n
at_even {x} {n} p = go x p.fit (is_at p).value
  where
    go : (x : Float) → T (fits binary32 x) → Value (2 ^ 149) x n 0 → Even n
    go nan t v = absurd v
    go (inf s) t v = absurd v
    go (fin s m e) t v =
        let h = held s m e t in
        record { q = m; j = h.j; small = h.small; is = sym (alone s v.n n v.split) ∙ eq_of_mul-eq-mul_right (down e) (down_pos e) v.n (m * 2 ^ h.j) (sym v.size ∙ h.size) }

-- so rounding leaves it alone
pub at_rnd : {x : Float} {n : ℕ} → At x n → rnd n 1 ≡ n
at_rnd {x} {n} p = let e = at_even p in ap (λ (k : ℕ). rnd k 1) e.is ∙ rnd_exact e.q e.j e.small ∙ sym e.is

pub at_huge : {x : Float} {n : ℕ} → At x n → n < huge
at_huge {x} {n} p = go x p.fit (is_at p).value
  where
    go : (x : Float) → T (fits binary32 x) → Value (2 ^ 149) x n 0 → n < huge
    go nan t v = absurd v
    go (inf s) t v = absurd v
    go (fin s m e) t v =
        subst (λ (k : ℕ). k < huge) (alone s v.n n v.split)
        (lt_of_mul-lt-mul_right (down e)
        (subst (λ (k : ℕ). k < huge * down e) v.size
        (subst (λ (k : ℕ). m * up e * 2 ^ 149 < k) (mul_right_comm (2 ^ 128) (down e) (2 ^ 149)) (mul-lt-mul_of_pos_right (held s m e t).room (pow_pos 149)))))
