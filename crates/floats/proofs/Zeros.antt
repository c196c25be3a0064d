-- Adding a zero changes no float, bit by bit: -0.0 changes none at all, and 0.0 none but -0.0. For that: a float is written in one way. Assumes nothing.
use mathlib.Core.Path.{◌≡◌, refl, sym, ap, ◌∙◌, subst}
use mathlib.Core.Bool.{Bool, true, false, not, ◌&&◌, true≢false}
use mathlib.Core.Logic.{◌⊎◌, inl, inr}
use Prim.Native.Nat.{ℕ, zero, suc, ◌+◌, ◌-◌, ◌*◌, ◌%◌, ◌^◌, ◌<◌}
use native.Mathlib.Nat.{lt_irrefl, zero-lt-suc, zero-mul, mul-one, one-mul, mul_assoc, mul_left_comm, mul_right_comm, mul-pos, add-zero, pow-suc, pow-succ', eq_of_mul-eq-mul_right, lt_of_mul-lt-mul_right, mul-lt-mul_of_pos_right}
use native.Mathlib.Omega.{arith}
use borrow.Author.Tests.{le-ltb, lt-ltb, ne_eqb}
use lib.IntN.{ℤ, pos, negsuc}
use lib.Dec.{T, ltb, leb, eqb, eqb→eq}
use lib.Pow.{pow-add, pow_pos}
use lib.Ieee.{Float, nan, inf, fin, binary32, up, down, round, sum, add, sub, neg, div, fits, of_bits}
use lib.Ieee.Fits.{up_pos, down_pos, and_l, round-fits}
use lib.Ieee.Exact.{HasValue, round_exact}
use lib.Ieee.Scale.{finite, round_same}
use Rattle.floats.specs.F32.{◌⊕◌, ◌⊖◌, ◌⊘◌, zero32, minus_zero32}
use Rattle.floats.proofs.Held.{held}

-- ---- an odd number times a power of two is so in one way
even_odd : (m t : ℕ) → m % 2 ≡ 1 → m ≡ 2 * t → ⊥
even_odd m t o h = omega arith

odd_pow : (m n a b : ℕ) → m % 2 ≡ 1 → n % 2 ≡ 1 → m * 2 ^ a ≡ n * 2 ^ b → (m ≡ n) × (a ≡ b)
odd_pow m n zero zero o p h = (sym (mul-one m) ∙ h ∙ mul-one n, refl)
odd_pow m n zero (suc b) o p h = absurd (even_odd m (n * 2 ^ b) o (sym (mul-one m) ∙ h ∙ ap (λ (x : ℕ). n * x) (pow-succ' 2 b) ∙ mul_left_comm n 2 (2 ^ b)))
odd_pow m n (suc a) zero o p h = absurd (even_odd n (m * 2 ^ a) p (sym (mul-one n) ∙ sym h ∙ ap (λ (x : ℕ). m * x) (pow-succ' 2 a) ∙ mul_left_comm m 2 (2 ^ a)))
odd_pow m n (suc a) (suc b) o p h =
    let r = odd_pow m n a b o p
    (eq_of_mul-eq-mul_right 2 (zero-lt-suc 1) (m * 2 ^ a) (n * 2 ^ b)
    (mul_assoc m (2 ^ a) 2 ∙ ap (λ (x : ℕ). m * x) (sym (pow-suc 2 a)) ∙ h ∙ ap (λ (x : ℕ). n * x) (pow-suc 2 b) ∙ sym (mul_assoc n (2 ^ b) 2))) in
    (r.0, ap suc r.1)

-- so for exponents of either sign
same_exponent : (m n : ℕ) (e g : ℤ) → m % 2 ≡ 1 → n % 2 ≡ 1 → m * up e * down g ≡ n * up g * down e → (m ≡ n) × (e ≡ g)
same_exponent m n (pos a) (pos b) o p h = let r = odd_pow m n a b o p (sym (mul-one (m * 2 ^ a)) ∙ h ∙ mul-one (n * 2 ^ b)) in (r.0, ap pos r.1)
same_exponent m n (pos a) (negsuc b) o p h =
    let r = odd_pow m n (a + suc b) 0 o p (ap (λ (x : ℕ). m * x) (pow-add 2 a (suc b)) ∙ sym (mul_assoc m (2 ^ a) (2 ^ suc b)) ∙ h ∙ mul-one (n * 1)) in absurd (omega (arith, r.1))
same_exponent m n (negsuc a) (pos b) o p h =
    let r = odd_pow m n 0 (b + suc a) o p (sym (mul-one (m * 1)) ∙ h ∙ mul_assoc n (2 ^ b) (2 ^ suc a) ∙ ap (λ (x : ℕ). n * x) (sym (pow-add 2 b (suc a)))) in absurd (omega (arith, r.1))
same_exponent m n (negsuc a) (negsuc b) o p h =
    let r = odd_pow m n (suc b) (suc a) o p (ap (λ (x : ℕ). x * 2 ^ suc b) (sym (mul-one m)) ∙ h ∙ ap (λ (x : ℕ). x * 2 ^ suc a) (mul-one n)) in
    (r.0, ap negsuc (sym (omega (arith, r.1))))

-- ---- what a float that fits is made of
is_odd : (s : Bool) (m : ℕ) (e : ℤ) → T (fits binary32 (fin s (suc m) e)) → suc m % 2 ≡ 1
unfolding fits
is_odd s m e t =
    let a = eqb (suc m % 2) 1 in
    let b = ltb (suc m) (2 ^ 24) in
    let c = leb (down e) (2 ^ 149) in
    let d = ltb (suc m * up e) (2 ^ 128 * down e) in
    eqb→eq (suc m % 2) 1 (and_l a b (and_l (a && b) c (and_l (a && b && c) d t)))

two_up : (p : ℕ) → 0 < p → 2 * p ≡ 1 → ⊥
two_up p h e = omega arith

flat : (e : ℤ) → up e * down e ≡ 1 → e ≡ pos 0
flat (pos zero) h = refl
flat (pos (suc k)) h = absurd (two_up (2 ^ k) (pow_pos k) (sym (pow-succ' 2 k) ∙ sym (mul-one (2 ^ suc k)) ∙ h))
flat (negsuc k) h = absurd (two_up (2 ^ k) (pow_pos k) (sym (pow-succ' 2 k) ∙ sym (one-mul (2 ^ suc k)) ∙ h))

zero_exponent : (s : Bool) (e : ℤ) → T (fits binary32 (fin s zero e)) → e ≡ pos 0
unfolding fits
zero_exponent s e t = flat e (eqb→eq (up e * down e) 1 t)

-- ---- so a sign and a size are written in one way
none : (a b : ℕ) → 0 < a → 0 < b → a * b ≡ 0 → ⊥
none a b h l z = lt_irrefl 0 (subst (λ (k : ℕ). 0 < k) z (mul-pos h l))

pub written_once : (x : Float) (s : Bool) (m : ℕ) (e : ℤ) → T (fits binary32 x) → T (fits binary32 (fin s m e)) → HasValue x s (m * up e) (down e) → x ≡ fin s m e
written_once nan s m e p q v = absurd v
written_once (inf t) s m e p q v = absurd v
written_once (fin t zero g) s zero e p q v = λ i. fin (v.0 i) zero ((zero_exponent t g p ∙ sym (zero_exponent s e q)) i)
written_once (fin t zero g) s (suc m) e p q v = absurd (none (suc m * up e) (down g) (mul-pos (zero-lt-suc m) (up_pos e)) (down_pos g) (sym v.1 ∙ rw (zero-mul (up g)) (zero-mul (down e))))
written_once (fin t (suc n) g) s zero e p q v = absurd (none (suc n * up g) (down e) (mul-pos (zero-lt-suc n) (up_pos g)) (down_pos e) (v.1 ∙ rw (zero-mul (up e)) (zero-mul (down g))))
written_once (fin t (suc n) g) s (suc m) e p q v =
    let r = same_exponent (suc n) (suc m) g e (is_odd t n g p) (is_odd s m e q) v.1 in
    λ i. fin (v.0 i) (r.0 i) (r.1 i)

-- a float that fits is what rounding makes of its own size
pub round_itself : (s : Bool) (m : ℕ) (e : ℤ) → T (fits binary32 (fin s m e)) → round binary32 s (m * up e) (down e) ≡ fin s m e
round_itself s m e t =
    let h = held s m e t in
    written_once (round binary32 s (m * up e) (down e)) s m e (round-fits binary32 s (m * up e) (down e)) t
    (round_exact binary32 s (m * up e) (down e) m h.j (down_pos e) h.small (small (m * up e) (m * 2 ^ h.j) (down e) (down_pos e) h.size h.room) h.size)
  where
    small : (a b d : ℕ) → 0 < d → a * 2 ^ 149 ≡ b * d → a < 2 ^ 128 * d → b < 2 ^ 277
    small a b d D i r =
        lt_of_mul-lt-mul_right d
        (subst (λ (k : ℕ). k < 2 ^ 277 * d) i
        (subst (λ (k : ℕ). a * 2 ^ 149 < k) (mul_right_comm (2 ^ 128) d (2 ^ 149) ∙ ap (λ (k : ℕ). k * d) (sym (pow-add 2 128 149))) (mul-lt-mul_of_pos_right r (pow_pos 149))))

-- ---- the two zeros
-- the fraction that a sum with a zero rounds
kept : (s : Bool) (m : ℕ) (e : ℤ) → T (fits binary32 (fin s m e)) → (a c : ℕ) → a ≡ m * up e → c ≡ down e → round binary32 s a c ≡ fin s m e
kept s m e t a c i j = rw (i, j) (round_itself s m e t)

nothing : (d : ℕ) → 0 * 1 * d ≡ 0
nothing d = rw (zero-mul 1) (zero-mul d)

-- of unlike signs nothing is taken away
unlike_zero : (a b c : ℕ) → b ≡ 0 → sum binary32 false a true b c ≡ round binary32 false a c
unfolding sum
unlike_zero a b c h = rw (le-ltb a b (omega (arith, h))) (ap (λ (k : ℕ). round binary32 false k c) (omega (arith, h)))

above_zero : (a b c : ℕ) → b ≡ 0 → 0 < a → sum binary32 true a false b c ≡ round binary32 true a c
unfolding sum
above_zero a b c h l = rw (le-ltb a b (omega (arith, h)), lt-ltb b a (omega (arith, h))) (ap (λ (k : ℕ). round binary32 true k c) (omega (arith, h)))

pub plus_minus_zero : (x : Float) → T (fits binary32 x) → x ⊕ minus_zero32 ≡ x
unfolding add sum of_bits
plus_minus_zero nan t = refl
plus_minus_zero (inf s) t = refl
plus_minus_zero (fin true m e) t = kept true m e t (m * up e * 1 + 0 * 1 * down e) (down e * 1) (rw (nothing (down e), mul-one (m * up e)) (add-zero (m * up e))) (mul-one (down e))
plus_minus_zero (fin false m e) t = unlike_zero (m * up e * 1) (0 * 1 * down e) (down e * 1) (nothing (down e)) ∙ kept false m e t (m * up e * 1) (down e * 1) (mul-one (m * up e)) (mul-one (down e))

-- 0.0 changes every float but -0.0, of which it makes 0.0
pub plus_zero : (x : Float) → T (fits binary32 x) → (x ⊕ zero32 ≡ x) ⊎ ((x ≡ minus_zero32) × (x ⊕ zero32 ≡ zero32))
unfolding add sum of_bits
plus_zero nan t = inl refl
plus_zero (inf s) t = inl refl
plus_zero (fin false m e) t = inl (kept false m e t (m * up e * 1 + 0 * 1 * down e) (down e * 1) (rw (nothing (down e), mul-one (m * up e)) (add-zero (m * up e))) (mul-one (down e)))
plus_zero (fin true zero e) t = inr (rw (zero_exponent true e t) refl, rw (zero_exponent true e t) refl)
plus_zero (fin true (suc m) e) t =
    inl
    (above_zero (suc m * up e * 1) (0 * 1 * down e) (down e * 1) (nothing (down e)) (rw (mul-one (suc m * up e)) (mul-pos (zero-lt-suc m) (up_pos e)))
    ∙ kept true (suc m) e t (suc m * up e * 1) (down e * 1) (mul-one (suc m * up e)) (mul-one (down e)))

-- ---- what is nothing
none_rounds : (c : ℕ) → 0 < c → round binary32 false 0 c ≡ zero32
unfolding of_bits fits
none_rounds c h = round_same binary32 false 0 c 0 1 h (zero-lt-suc 0) (rw (zero-mul c)) ∙ round_itself false 0 (pos 0) tt

none_shared : (a c : ℕ) → a ≡ 0 → 0 < c → round binary32 false a c ≡ zero32
none_shared a c e h = rw e (none_rounds c h)

itself : (s : Bool) (a c : ℕ) → 0 < c → sum binary32 s a (not s) a c ≡ zero32
unfolding sum
itself true a c h = rw (le-ltb a a (omega arith)) (none_shared (a - a) c (omega arith) h)
itself false a c h = rw (le-ltb a a (omega arith)) (none_shared (a - a) c (omega arith) h)

-- a finite number less itself is 0.0
pub less_itself : (x : Float) → T (finite x) → x ⊖ x ≡ zero32
unfolding sub add sum neg
less_itself nan t = absurd t
less_itself (inf s) t = absurd t
less_itself (fin s m e) t = itself s (m * up e * down e) (down e * down e) (mul-pos (down_pos e) (down_pos e))

-- and nothing, shared out among some
pub zero_over : (y : Float) (n : ℕ) → 0 < n → HasValue y false n 1 → zero32 ⊘ y ≡ zero32
unfolding div of_bits
zero_over nan n h v = absurd v
zero_over (inf s) n h v = absurd v
zero_over (fin s zero e) n h v = absurd (none n (down e) h (down_pos e) (sym v.1 ∙ rw (zero-mul (up e)) (zero-mul 1)))
zero_over (fin true (suc m) e) n h v = absurd (true≢false v.0)
zero_over (fin false (suc m) e) n h v = rw (ne_eqb (suc m) 0 (λ i. omega (arith, i))) (none_shared (0 * 1 * down e) (suc m * up e * 1) (nothing (down e)) (rw (mul-one (suc m * up e)) (mul-pos (zero-lt-suc m) (up_pos e))))
