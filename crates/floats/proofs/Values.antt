-- The exact value of a finite float: `Value U x p q` says that x is p - q units, for the unit 1 / U. Two natural numbers stand for either sign, since `omega` reads no integers.
-- Comparisons of floats are comparisons of such numbers. Nothing here is about rounding. Assumes nothing.
use mathlib.Core.Path.{◌≡◌, refl, sym, ap, ◌∙◌, subst}
use mathlib.Core.Logic.{inl, inr}
use Prim.Native.Nat.{ℕ, ◌+◌, ◌*◌, ◌≤◌, ◌<◌}
use native.Mathlib.Nat.{mul_comm, mul_assoc, mul_right_comm, add-mul, zero-mul, mul-pos, mul-le-mul_right, mul-lt-mul_of_pos_right, eq-or-lt_of_le, eq_of_mul-eq-mul_right, le_of_mul-le-mul_right, lt_of_mul-lt-mul_right}
use native.Mathlib.Omega.{arith}
use borrow.Author.Tests.{ltb-true, lt-ltb, le-ltb, eqb-true, eq-eqb, leb-true, le-leb}
use mathlib.Core.Bool.{Bool, true, false, ◌&&◌, ◌||◌, true≢false, and-true}
use lib.IntN.{ℤ}
use lib.Dec.{ltb, leb, eqb}
use lib.Ieee.{Float, nan, inf, fin, up, down, below, level, lt, le, eq}
use lib.Ieee.Fits.{down_pos}
use Rattle.floats.proofs.Bools.{and_both, same_bool}

-- p - q has the size n, and is negative where s is true; zero has either sign
abbrev pub Split : Bool → ℕ → ℕ → ℕ → Type 0
Split false n p q = n + q ≡ p
Split true n p q = n + p ≡ q

pub record Opened (U : ℕ) (s : Bool) (m : ℕ) (e : ℤ) (p q : ℕ) : Type 0 where
  pub n : ℕ
  pub size : m * up e * U ≡ n * down e
  pub split : Split s n p q

abbrev pub Value : ℕ → Float → ℕ → ℕ → Type 0
Value U nan p q = ⊥
Value U (inf s) p q = ⊥
Value U (fin s m e) p q = Opened U s m e p q

-- what holds of two values, whatever their digits
pub on_finite : {U p q r t : ℕ} (P : Float → Float → Type 0)
    → ((u : Bool) (m : ℕ) (e : ℤ) (v : Bool) (n : ℕ) (d : ℤ) → Opened U u m e p q → Opened U v n d r t → P (fin u m e) (fin v n d))
    → (x y : Float) → Value U x p q → Value U y r t → P x y
on_finite P f nan y X Y = absurd X
on_finite P f (inf u) y X Y = absurd X
on_finite P f (fin u m e) nan X Y = absurd Y
on_finite P f (fin u m e) (inf v) X Y = absurd Y
on_finite P f (fin u m e) (fin v n d) X Y = f u m e v n d X Y

-- ---- A / C is a units, and B / C is b units
module _ (U A B C a b : ℕ) (U_pos : 0 < U) (C-pos : 0 < C) (x : A * U ≡ a * C) (y : B * U ≡ b * C) where
  pub both : (A + B) * U ≡ (a + b) * C
  both = simp (add-mul, x, y)

  pub scale_lt : A < B → a < b
  scale_lt h = lt_of_mul-lt-mul_right C (subst (λ (k : ℕ). k < b * C) x (subst (λ (k : ℕ). A * U < k) y (mul-lt-mul_of_pos_right h U_pos)))

  pub scale_le : A ≤ B → a ≤ b
  scale_le h = le_of_mul-le-mul_right (subst (λ (k : ℕ). k ≤ b * C) x (subst (λ (k : ℕ). A * U ≤ k) y (mul-le-mul_right U h))) C-pos

scale_eq : (U A B C a b : ℕ) → 0 < C → A * U ≡ a * C → B * U ≡ b * C → A ≡ B → a ≡ b
scale_eq U A B C a b C-pos x y e = eq_of_mul-eq-mul_right C C-pos a b (sym x ∙ ap (λ (k : ℕ). k * U) e ∙ y)

-- over the common denominator of two values
pub over_l : (U M n de dd : ℕ) → M * U ≡ n * de → M * dd * U ≡ n * (de * dd)
over_l U M n de dd h = mul_right_comm M dd U ∙ ap (λ (k : ℕ). k * dd) h ∙ mul_assoc n de dd

pub over_r : (U M n de dd : ℕ) → M * U ≡ n * dd → M * de * U ≡ n * (de * dd)
over_r U M n de dd h = over_l U M n dd de h ∙ ap (λ (k : ℕ). n * k) (mul_comm dd de)

-- ---- two tests that say the same
pub same_lt : (A B a b : ℕ) → (A < B → a < b) → (a < b → A < B) → ltb A B ≡ ltb a b
same_lt A B a b f g = same_bool (ltb A B) (ltb a b) (λ h. lt-ltb a b (f (ltb-true A B h))) (λ h. lt-ltb A B (g (ltb-true a b h)))

pub same_eq : (A B a b : ℕ) → (A ≡ B → a ≡ b) → (a ≡ b → A ≡ B) → eqb A B ≡ eqb a b
same_eq A B a b f g = same_bool (eqb A B) (eqb a b) (λ h. eq-eqb a b (f (eqb-true A B h))) (λ h. eq-eqb A B (g (eqb-true a b h)))

-- ---- comparisons
module _ (U A B C a b p q r t : ℕ) (U_pos : 0 < U) (C-pos : 0 < C) (x : A * U ≡ a * C) (y : B * U ≡ b * C) where
  nought : 0 * U ≡ 0 * C
  nought = zero-mul U ∙ sym (zero-mul C)

  below_is : (u v : Bool) → Split u a p q → Split v b r t → below u A v B ≡ ltb (p + t) (r + q)
  below_is false false f g =
      same_lt A B (p + t) (r + q)
      (λ h. omega (arith, scale_lt U A B C a b U_pos C-pos x y h))
      (λ h. scale_lt C a b U A B C-pos U_pos (sym x) (sym y) (omega arith))
  below_is false true f g = sym (le-ltb (p + t) (r + q) (omega arith))
  below_is true false f g =
      let z = both U A B C a b U_pos C-pos x y in
      same_lt 0 (A + B) (p + t) (r + q)
      (λ h. omega (arith, scale_lt U 0 (A + B) C 0 (a + b) U_pos C-pos nought z h))
      (λ h. scale_lt C 0 (a + b) U 0 (A + B) C-pos U_pos (sym nought) (sym z) (omega arith))
  below_is true true f g =
      same_lt B A (p + t) (r + q)
      (λ h. omega (arith, scale_lt U B A C b a U_pos C-pos y x h))
      (λ h. scale_lt C b a U B A C-pos U_pos (sym y) (sym x) (omega arith))

  alike : (a ≡ b → p + t ≡ r + q) → (p + t ≡ r + q → a ≡ b) → eqb A B && true ≡ eqb (p + t) (r + q)
  alike f g =
      and-true (eqb A B) ∙ same_eq A B (p + t) (r + q) (λ h. f (scale_eq U A B C a b C-pos x y h)) (λ h. scale_eq C a b U A B U_pos (sym x) (sym y) (g h))

  -- of unlike signs only zeros are equal
  apart : (a ≡ 0 → a ≡ b → p + t ≡ r + q) → (p + t ≡ r + q → (a ≡ 0) × (a ≡ b)) → eqb A B && eqb A 0 ≡ eqb (p + t) (r + q)
  apart f g =
      same_bool (eqb A B && eqb A 0) (eqb (p + t) (r + q))
      (λ h.
      let k = and_both (eqb A B) (eqb A 0) h in
      eq-eqb (p + t) (r + q) (f (scale_eq U A 0 C a 0 C-pos x nought (eqb-true A 0 k.1)) (scale_eq U A B C a b C-pos x y (eqb-true A B k.0))))
      (λ h.
      let k = g (eqb-true (p + t) (r + q) h) in
      rw (eq-eqb A B (scale_eq C a b U A B U_pos (sym x) (sym y) k.1), eq-eqb A 0 (scale_eq C a 0 U A 0 U_pos (sym x) (sym nought) k.0)))

  level_is : (u v : Bool) → Split u a p q → Split v b r t → level u A v B ≡ eqb (p + t) (r + q)
  level_is false false f g = alike (λ h. omega arith) (λ h. omega arith)
  level_is true true f g = alike (λ h. omega arith) (λ h. omega arith)
  level_is false true f g = apart (λ h k. omega arith) (λ h. omega arith)
  level_is true false f g = apart (λ h k. omega arith) (λ h. omega arith)

module _ (U : ℕ) (U_pos : 0 < U) (x y : Float) (p q r t : ℕ) (X : Value U x p q) (Y : Value U y r t) where
  pub lt_value : lt x y ≡ ltb (p + t) (r + q)
  unfolding lt
  lt_value = on_finite (λ x y. lt x y ≡ ltb (p + t) (r + q)) (λ u m e v n d X Y.
      below_is U (m * up e * down d) (n * up d * down e) (down e * down d) X.n Y.n p q r t U_pos (mul-pos (down_pos e) (down_pos d))
      (over_l U (m * up e) X.n (down e) (down d) X.size) (over_r U (n * up d) Y.n (down e) (down d) Y.size) u v X.split Y.split) x y X Y

  pub eq_value : eq x y ≡ eqb (p + t) (r + q)
  unfolding eq
  eq_value = on_finite (λ x y. eq x y ≡ eqb (p + t) (r + q)) (λ u m e v n d X Y.
      level_is U (m * up e * down d) (n * up d * down e) (down e * down d) X.n Y.n p q r t U_pos (mul-pos (down_pos e) (down_pos d))
      (over_l U (m * up e) X.n (down e) (down d) X.size) (over_r U (n * up d) Y.n (down e) (down d) Y.size) u v X.split Y.split) x y X Y

-- `le` is `lt` or `eq`, as `leb` is
pub le_of : (x y : Float) (a b : ℕ) → lt x y ≡ ltb a b → eq x y ≡ eqb a b → le x y ≡ leb a b
unfolding le
le_of x y a b f g =
    ap (λ (c : Bool). c || eq x y) f ∙ ap (λ (c : Bool). ltb a b || c) g
    ∙ same_bool (ltb a b || eqb a b) (leb a b) (λ h. le-leb a b (less (ltb a b) (eqb a b) refl refl h)) (λ h. more (leb-true a b h))
  where
    less : (s t : Bool) → ltb a b ≡ s → eqb a b ≡ t → s || t ≡ true → a ≤ b
    less true t f g h = omega (arith, ltb-true a b f)
    less false true f g h = omega (arith, eqb-true a b g)
    less false false f g h = absurd (true≢false (sym h))

    more : a ≤ b → ltb a b || eqb a b ≡ true
    more h = elim (eq-or-lt_of_le h) [ inl e ↦ rw (le-ltb a b (omega arith), eq-eqb a b e) | inr l ↦ rw (lt-ltb a b l) ]
