-- The order of floats, over all of them: infinities, either sign, and NaNs, of which no test holds. A test is an equation, as an `if` gives it. Assumes nothing.
use mathlib.Core.Path.{◌≡◌, refl, sym, ap, ◌∙◌}
use mathlib.Core.Logic.{◌⊎◌, inl, inr}
use Prim.Native.Nat.{ℕ, suc, ◌+◌, ◌*◌, ◌≤◌, ◌<◌, ◌-◌}
use native.Mathlib.Nat.{mul_assoc, mul_comm, mul_left_comm, mul-pos, add-zero}
use native.Mathlib.Omega.{arith}
use borrow.Author.Tests.{ltb-true, leb-true, leb-false, lt-ltb, le-ltb, le-leb, eq-eqb, ne_eqb}
use mathlib.Core.Bool.{Bool, true, false, true≢false}
use lib.IntN.{ℤ}
use lib.Dec.{ltb, leb, eqb}
use lib.Ieee.{Float, nan, inf, fin, up, down, lt, le, eq, is_nan}
use lib.Ieee.Positive.{num, den, den_pos}
use Rattle.floats.proofs.Values.{Opened, lt_value, eq_value, le_of, same_lt, same_eq}

-- ---- a float's place among those of at most K units of 1 / U: the infinities stand at the ends
abbrev last : ℕ → ℕ
last K = suc (suc (K + K))

data Place (U K : ℕ) : Float → ℕ → Type 0 where
  bottom : Place U K (inf true) 0
  middle : {s : Bool} {m : ℕ} {e : ℤ} {p q : ℕ} (i : ℕ) → Opened U s m e p q → p ≤ K → q ≤ K → i + q ≡ suc K + p → Place U K (fin s m e) i
  top : Place U K (inf false) (last K)

module _ {U K : ℕ} (U_pos : 0 < U) where
  lt_place : {x y : Float} {i j : ℕ} → Place U K x i → Place U K y j → lt x y ≡ ltb i j
  unfolding lt
  lt_place bottom bottom = sym (le-ltb 0 0 (omega arith))
  lt_place bottom (middle j Y a b h) = sym (lt-ltb 0 j (omega arith))
  lt_place bottom top = sym (lt-ltb 0 (last K) (omega arith))
  lt_place (middle i X a b h) bottom = sym (le-ltb i 0 (omega arith))
  lt_place (middle {s} {m} {e} {p} {q} i X a b h) (middle {s = t} {m = n} {e = d} {p = r} {q = v} j Y c f k) =
      lt_value U U_pos (fin s m e) (fin t n d) p q r v X Y ∙ same_lt (p + v) (r + q) i j (λ l. omega arith) (λ l. omega arith)
  lt_place (middle i X a b h) top = sym (lt-ltb i (last K) (omega arith))
  lt_place top bottom = sym (le-ltb (last K) 0 (omega arith))
  lt_place top (middle j Y a b h) = sym (le-ltb (last K) j (omega arith))
  lt_place top top = sym (le-ltb (last K) (last K) (omega arith))

  eq_place : {x y : Float} {i j : ℕ} → Place U K x i → Place U K y j → eq x y ≡ eqb i j
  unfolding eq
  eq_place bottom bottom = sym (eq-eqb 0 0 refl)
  eq_place bottom (middle j Y a b h) = sym (ne_eqb 0 j (λ l. omega arith))
  eq_place bottom top = sym (ne_eqb 0 (last K) (λ l. omega arith))
  eq_place (middle i X a b h) bottom = sym (ne_eqb i 0 (λ l. omega arith))
  eq_place (middle {s} {m} {e} {p} {q} i X a b h) (middle {s = t} {m = n} {e = d} {p = r} {q = v} j Y c f k) =
      eq_value U U_pos (fin s m e) (fin t n d) p q r v X Y ∙ same_eq (p + v) (r + q) i j (λ l. omega arith) (λ l. omega arith)
  eq_place (middle i X a b h) top = sym (ne_eqb i (last K) (λ l. omega arith))
  eq_place top bottom = sym (ne_eqb (last K) 0 (λ l. omega arith))
  eq_place top (middle j Y a b h) = sym (ne_eqb (last K) j (λ l. omega arith))
  eq_place top top = sym (eq-eqb (last K) (last K) refl)

-- ---- the tests between two floats are those between two numbers
record Tests (x y : Float) (i j : ℕ) : Type 0 where
  lt_is : lt x y ≡ ltb i j
  eq_is : eq x y ≡ eqb i j

tests : {U K : ℕ} {x y : Float} {i j : ℕ} → 0 < U → Place U K x i → Place U K y j → Tests x y i j
tests U_pos X Y = record { lt_is = lt_place U_pos X Y; eq_is = eq_place U_pos X Y }

module _ {x y : Float} {i j : ℕ} (t : Tests x y i j) where
  le_is : le x y ≡ leb i j
  le_is = le_of x y i j t.lt_is t.eq_is

  passed_le : le x y ≡ true → i ≤ j
  passed_le h = leb-true i j (sym le_is ∙ h)

  passed_lt : lt x y ≡ true → i < j
  passed_lt h = ltb-true i j (sym t.lt_is ∙ h)

-- ---- three floats that are no NaN
record Line (x y z : Float) : Type 0 where
  i : ℕ
  j : ℕ
  k : ℕ
  xy : Tests x y i j
  yx : Tests y x j i
  yz : Tests y z j k
  xz : Tests x z i k

place : (x : Float) (U K k : ℕ) → is_nan x ≡ false → U ≡ den x * k → num x * k ≤ K → (i : ℕ) × Place U K x i
unfolding is_nan
place nan U K k o h l = absurd (true≢false o)
place (inf true) U K k o h l = (0, bottom)
place (inf false) U K k o h l = (last K, top)
place (fin s m e) U K k o h l = go s
  where
    n : ℕ
    n = m * up e * k

    size : m * up e * U ≡ n * down e
    size = ap (λ (u : ℕ). m * up e * u) (h ∙ mul_comm (down e) k) ∙ sym (mul_assoc (m * up e) k (down e))

    go : (s : Bool) → (i : ℕ) × Place U K (fin s m e) i
    go false = (suc K + n, middle {p = n} {q = 0} (suc K + n) (record { n = n; size = size; split = add-zero n }) l (omega arith) (omega arith))
    go true = (suc K - n, middle {p = 0} {q = n} (suc K - n) (record { n = n; size = size; split = add-zero n }) (omega arith) l (omega arith))

-- a test that passed was between numbers
pub numbers : (x y : Float) → le x y ≡ true → (is_nan x ≡ false) × (is_nan y ≡ false)
unfolding le is_nan
numbers nan y h = absurd (true≢false (sym h))
numbers (inf s) nan h = absurd (true≢false (sym h))
numbers (inf s) (inf t) h = (refl, refl)
numbers (inf s) (fin t n d) h = (refl, refl)
numbers (fin s m e) nan h = absurd (true≢false (sym h))
numbers (fin s m e) (inf t) h = (refl, refl)
numbers (fin s m e) (fin t n d) h = (refl, refl)

line : (x y z : Float) → is_nan x ≡ false → is_nan y ≡ false → is_nan z ≡ false → Line x y z
line x y z X Y Z =
    let a = den y * den z in
    let b = den x * den z in
    let c = den x * den y in
    let K = num x * a + num y * b + num z * c in
    let U = den x * a in
    let U_pos : 0 < U = mul-pos (den_pos x) (mul-pos (den_pos y) (den_pos z)) in
    let p = place x U K a X refl (omega arith) in
    let q = place y U K b Y (mul_left_comm (den x) (den y) (den z)) (omega arith) in
    let r = place z U K c Z (simp (mul_assoc, mul_comm, mul_left_comm)) (omega arith) in
    record {
      i = p.0;
      j = q.0;
      k = r.0;
      xy = tests U_pos p.1 q.1;
      yx = tests U_pos q.1 p.1;
      yz = tests U_pos q.1 r.1;
      xz = tests U_pos p.1 r.1;
    }

-- ---- the laws
pub lt→le : (x y : Float) → lt x y ≡ true → le x y ≡ true
unfolding le
lt→le x y h = rw h

module _ (x y z : Float) where
  passed : le x y ≡ true → le y z ≡ true → Line x y z
  passed h k = line x y z (numbers x y h).0 (numbers x y h).1 (numbers y z k).1

  pub le_trans : le x y ≡ true → le y z ≡ true → le x z ≡ true
  le_trans h k =
      let p = passed h k in
      le_is p.xz ∙ le-leb p.i p.k (omega (arith, passed_le p.xy h, passed_le p.yz k))

  pub lt_le_trans : lt x y ≡ true → le y z ≡ true → lt x z ≡ true
  lt_le_trans h k =
      let p = passed (lt→le x y h) k in
      p.xz.lt_is ∙ lt-ltb p.i p.k (omega (arith, passed_lt p.xy h, passed_le p.yz k))

pub lt_irrefl : (x : Float) → lt x x ≡ false
unfolding lt
lt_irrefl nan = refl
lt_irrefl (inf true) = refl
lt_irrefl (inf false) = refl
lt_irrefl (fin true m e) = le-ltb (m * up e * down e) (m * up e * down e) (omega arith)
lt_irrefl (fin false m e) = le-ltb (m * up e * down e) (m * up e * down e) (omega arith)

module _ (x y : Float) where
  -- equal, and not the same: the two zeros are equal
  pub le_antisymm : le x y ≡ true → le y x ≡ true → eq x y ≡ true
  le_antisymm h k =
      let p = passed x y x h k in
      p.xy.eq_is ∙ eq-eqb p.i p.j (omega (arith, passed_le p.xy h, passed_le p.yx k))

  pub le_not_lt : le y x ≡ true → lt x y ≡ false
  le_not_lt h = go (lt x y) refl
    where
      go : (o : Bool) → lt x y ≡ o → o ≡ false
      go true k = absurd (true≢false (sym (lt_le_trans x y x k h) ∙ lt_irrefl x))
      go false k = refl

  pub not_le_lt : is_nan x ≡ false → is_nan y ≡ false → le x y ≡ false → lt y x ≡ true
  not_le_lt X Y h = let p = line x y y X Y Y in p.yx.lt_is ∙ lt-ltb p.j p.i (leb-false p.i p.j (sym (le_is p.xy) ∙ h))

  pub le_or_lt : is_nan x ≡ false → is_nan y ≡ false → (le x y ≡ true) ⊎ (lt y x ≡ true)
  le_or_lt X Y = go (le x y) refl
    where
      go : (o : Bool) → le x y ≡ o → (le x y ≡ true) ⊎ (lt y x ≡ true)
      go true h = inl h
      go false h = inr (not_le_lt X Y h)
