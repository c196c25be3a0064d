-- binary32 values of either sign. `Is x p q` says that x fits binary32, is finite, and is p - q units of 2 ^ -149.
-- Sums, differences, and products and quotients by a value that is not negative, are `rnd` on such numbers. Assumes nothing.
use mathlib.Core.Path.{◌≡◌, refl, sym, ap, ◌∙◌, subst}
use Prim.Native.Nat.{ℕ, zero, suc, ◌+◌, ◌*◌, ◌/◌, ◌^◌, ◌≤◌, ◌<◌, ◌-◌}
use native.Mathlib.Nat.{lt_irrefl, zero-lt-suc, zero-mul, mul-zero, mul-one, mul_comm, mul_assoc, mul_left_comm, mul-sub, add-zero, mul-pos, mul-div_cancel}
use native.Mathlib.Omega.{arith}
use borrow.Author.Tests.{ne_eqb}
use mathlib.Core.Bool.{Bool, true, false, not, ◌&&◌, cond}
use lib.IntN.{ℤ, pos, neg_ℤ, ◌+ℤ◌, +ℤ-neg_ℤ_cancel, neg_ℤ-neg_ℤ, neg_ℤ-+ℤ, +ℤ_comm, ◌-ℤ◌}
use lib.Dec.{T, ltb, leb, eqb, ltb→lt, nltb→le}
use lib.Pow.{pow_pos}
use lib.Ieee.{Float, nan, inf, fin, binary32, up, down, unlike, round, sum, neg, add, sub, mul, div, lt, le, eq, fits}
use lib.Ieee.Fits.{down_pos, round_is, neg-fits, add-fits, mul-fits, div-fits}
use lib.Ieee.Exact.{HasValue, units_val}
use lib.Ieee.Nearest.{closest}
use lib.Ieee.Positive.{first_pos}
use lib.Ieee.Scale.{finite}
use Rattle.floats.specs.F32.{◌⊕◌, ◌⊖◌, ◌⊗◌, ◌⊘◌}
use Rattle.floats.specs.Units.{units}
use Rattle.floats.proofs.Rounding.{rnd, cut, rnd_same, rnd_zero}
use Rattle.floats.proofs.Held.{held}
use Rattle.floats.proofs.Values.{Split, Opened, Value, on_finite, both, scale_lt, scale_le, over_l, over_r, lt_value, eq_value, le_of}

-- from this many units on binary32 has an infinity
abbrev pub huge : ℕ
huge = 2 ^ 277

pub record Is (x : Float) (p q : ℕ) : Type 0 where
  pub fit : T (fits binary32 x)
  pub value : Value (2 ^ 149) x p q

-- ---- the sign
pub neg_is : {x : Float} {p q : ℕ} → Is x p q → Is (neg x) q p
neg_is {x} {p} {q} X = record { fit = neg-fits binary32 x X.fit; value = go x X.value }
  where
    other : (s : Bool) (n : ℕ) → Split s n p q → Split (not s) n q p
    other false n h = h
    other true n h = h

    go : (x : Float) → Value (2 ^ 149) x p q → Value (2 ^ 149) (neg x) q p
    go nan h = unfold neg in h
    go (inf s) h = unfold neg in h
    go (fin s m e) h = unfold neg in record { n = h.n; size = h.size; split = other s h.n h.split }

-- ---- comparisons
module _ {x y : Float} {p q r t : ℕ} (X : Is x p q) (Y : Is y r t) where
  pub lt_is : lt x y ≡ ltb (p + t) (r + q)
  lt_is = lt_value (2 ^ 149) (pow_pos 149) x y p q r t X.value Y.value

  pub eq_is : eq x y ≡ eqb (p + t) (r + q)
  eq_is = eq_value (2 ^ 149) (pow_pos 149) x y p q r t X.value Y.value

  pub le_is : le x y ≡ leb (p + t) (r + q)
  le_is = le_of x y (p + t) (r + q) lt_is eq_is

-- ---- a rounded result
signed_value : (x : Float) (s : Bool) (n p q : ℕ) → HasValue x s n (2 ^ 149) → Split s n p q → Value (2 ^ 149) x p q
signed_value nan s n p q v h = v
signed_value (inf t) s n p q v h = v
signed_value (fin t m e) s n p q v h = record { n = n; size = v.1; split = subst (λ (u : Bool). Split u n p q) (sym v.0) h }

-- a / c is n / d units
round_value : (s : Bool) (a c n d : ℕ) → 0 < c → 0 < d → a * 2 ^ 149 * d ≡ n * c → rnd n d < huge → HasValue (round binary32 s a c) s (rnd n d) (2 ^ 149)
unfolding rnd
round_value s a c n d C D e h =
    let N = a * 2 ^ 149 in
    let r : rnd N c ≡ rnd n d = rnd_same N c n d C D e in
    subst (λ (k : ℕ). HasValue (round binary32 s a c) s k (2 ^ 149)) r
    (subst (λ (x : Float). HasValue x s (rnd N c) (2 ^ 149)) (sym (round_is binary32 s a c))
    (units_val binary32 s (closest N (c * 2 ^ cut N c)) (cut N c) (subst (λ (k : ℕ). k < huge) (sym r) h)))

gaps : (n p q : ℕ) → n + q ≡ p → (p - q ≡ n) × (q - p ≡ 0)
gaps n p q e = omega arith

-- what a g with g 0 ≡ 0 makes of a number that splits
module _ (g : ℕ → ℕ) (g0 : g 0 ≡ 0) (n P Q : ℕ) where
  map_split : (s : Bool) → Split s n P Q → Split s (g n) (g (P - Q)) (g (Q - P))
  map_split false h = let k = gaps n P Q h in rw (k.0, k.1, g0) (add-zero (g n))
  map_split true h = let k = gaps n Q P h in rw (k.0, k.1, g0) (add-zero (g n))

  bounded : (s : Bool) → Split s n P Q → g (P - Q) < huge → g (Q - P) < huge → g n < huge
  bounded false h plus minus = rw (gaps n P Q h).0 at plus
  bounded true h plus minus = rw (gaps n Q P h).0 at minus

-- a / c is f n / d units
module _ (f : ℕ → ℕ) (f0 : f 0 ≡ 0) (d : ℕ) (D : 0 < d) (n P Q a c : ℕ) (C : 0 < c) (e : a * 2 ^ 149 * d ≡ f n * c)
    (plus : rnd (f (P - Q)) d < huge) (minus : rnd (f (Q - P)) d < huge) where
  rounded : (s : Bool) → Split s n P Q → Value (2 ^ 149) (round binary32 s a c) (rnd (f (P - Q)) d) (rnd (f (Q - P)) d)
  rounded s h =
      let g : ℕ → ℕ = λ i. rnd (f i) d in
      let g0 : g 0 ≡ 0 = rnd_zero d D f0 in
      signed_value (round binary32 s a c) s (g n) (g (P - Q)) (g (Q - P)) (round_value s a c (f n) d C D e (bounded g g0 n P Q s h plus minus)) (map_split g g0 n P Q s h)

-- ---- sums and differences
sub_mul : (a b c : ℕ) → (a - b) * c ≡ a * c - b * c
sub_mul a b c = mul_comm (a - b) c ∙ mul-sub c a b ∙ rw (mul_comm c a, mul_comm c b)

-- A / C is a units, and B / C is b units
module _ (A B C a b p q r t : ℕ) (C-pos : 0 < C) (x : A * 2 ^ 149 ≡ a * C) (y : B * 2 ^ 149 ≡ b * C)
    (plus : rnd (p + r - (q + t)) 1 < huge) (minus : rnd (q + t - (p + r)) 1 < huge) where
  abbrev Result : Float → Type 0
  Result z = Value (2 ^ 149) z (rnd (p + r - (q + t)) 1) (rnd (q + t - (p + r)) 1)

  result : (n N : ℕ) → N * 2 ^ 149 ≡ n * C → (s : Bool) → Split s n (p + r) (q + t) → Result (round binary32 s N C)
  result n N e = rounded (λ k. k) refl 1 (zero-lt-suc 0) n (p + r) (q + t) N C C-pos (mul-one (N * 2 ^ 149) ∙ e) plus minus

  -- of unlike signs the larger one's sign wins, and a zero that is left is not negative
  second : (u : Bool) → a < b → Split u a p q → Split (not u) b r t → Split (not u) (b - a) (p + r) (q + t)
  second true l f g = omega arith
  second false l f g = omega arith

  first : (u o : Bool) → b ≤ a → (T (not o) → a ≤ b) → Split u a p q → Split (not u) b r t → Split (u && o) (a - b) (p + r) (q + t)
  first true true l m f g = omega arith
  first true false l m f g = omega (arith, m tt)
  first false o l m f g = omega arith

  mixed : (u : Bool) → Split u a p q → Split (not u) b r t → Result (cond (ltb A B) (round binary32 (not u) (B - A) C) (round binary32 (u && ltb B A) (A - B) C))
  mixed u f g = go (ltb A B) (ltb→lt A B) (nltb→le A B)
    where
      U : 0 < 2 ^ 149
      U = pow_pos 149

      go : (o : Bool) → (T o → A < B) → (T (not o) → B ≤ A) → Result (cond o (round binary32 (not u) (B - A) C) (round binary32 (u && ltb B A) (A - B) C))
      go true l m = result (b - a) (B - A) (simp (sub_mul, x, y)) (not u) (second u (scale_lt (2 ^ 149) A B C a b U C-pos x y (l tt)) f g)
      go false l m =
          result (a - b) (A - B) (simp (sub_mul, x, y)) (u && ltb B A)
          (first u (ltb B A) (scale_le (2 ^ 149) B A C b a U C-pos y x (m tt)) (λ h. scale_le (2 ^ 149) A B C a b U C-pos x y (nltb→le B A h)) f g)

  sum_is : (u v : Bool) → Split u a p q → Split v b r t → Result (sum binary32 u A v B C)
  unfolding sum
  sum_is false false f g = result (a + b) (A + B) (both (2 ^ 149) A B C a b (pow_pos 149) C-pos x y) false (omega arith)
  sum_is true true f g = result (a + b) (A + B) (both (2 ^ 149) A B C a b (pow_pos 149) C-pos x y) true (omega arith)
  sum_is false true f g = mixed false f g
  sum_is true false f g = mixed true f g

pub add_is : {x y : Float} {p q r t : ℕ} → Is x p q → Is y r t → rnd (p + r - (q + t)) 1 < huge → rnd (q + t - (p + r)) 1 < huge
    → Is (x ⊕ y) (rnd (p + r - (q + t)) 1) (rnd (q + t - (p + r)) 1)
unfolding add
add_is {x} {y} {p} {q} {r} {t} X Y plus minus =
    record {
      fit = add-fits binary32 x y;
      value =
          on_finite (λ x y. Value (2 ^ 149) (x ⊕ y) (rnd (p + r - (q + t)) 1) (rnd (q + t - (p + r)) 1)) (λ u m e v n d X Y.
          sum_is (m * up e * down d) (n * up d * down e) (down e * down d) X.n Y.n p q r t (mul-pos (down_pos e) (down_pos d))
          (over_l (2 ^ 149) (m * up e) X.n (down e) (down d) X.size) (over_r (2 ^ 149) (n * up d) Y.n (down e) (down d) Y.size) plus minus u v X.split Y.split)
          x y X.value Y.value;
    }

pub sub_is : {x y : Float} {p q r t : ℕ} → Is x p q → Is y r t → rnd (p + t - (q + r)) 1 < huge → rnd (q + r - (p + t)) 1 < huge
    → Is (x ⊖ y) (rnd (p + t - (q + r)) 1) (rnd (q + r - (p + t)) 1)
unfolding sub
sub_is X Y plus minus = add_is X (neg_is Y) plus minus

-- ---- products and quotients by a value that is not negative
times : (M N a b de dd W : ℕ) → M * W ≡ a * de → N * W ≡ b * dd → M * N * W * W ≡ a * b * (de * dd)
times M N a b de dd W p q =
    simp (mul_assoc, mul_comm, mul_left_comm) (simp (mul_assoc, mul_comm, mul_left_comm) at (ap (λ (k : ℕ). k * (N * W)) p ∙ ap (λ (k : ℕ). a * de * k) q))

over : (M N a b de dd W : ℕ) → M * W ≡ a * de → N * W ≡ b * dd → M * dd * W * b ≡ a * W * (N * de)
over M N a b de dd W p q =
    let l : M * dd * W * b ≡ a * de * (b * dd) = simp (mul_assoc, mul_comm, mul_left_comm) (simp (mul_assoc, mul_comm, mul_left_comm) at (ap (λ (k : ℕ). k * (b * dd)) p)) in
    let r : a * W * (N * de) ≡ a * de * (b * dd) = simp (mul_assoc, mul_comm, mul_left_comm) (simp (mul_assoc, mul_comm, mul_left_comm) at (ap (λ (k : ℕ). k * (a * de)) q)) in
    l ∙ sym r

-- the size of b - 0, whichever its sign
pub alone : (v : Bool) (k b : ℕ) → Split v k b 0 → k ≡ b
alone false k b h = omega arith
alone true k b h = omega arith

pub mul_is : {x y : Float} {p q b : ℕ} → Is x p q → Is y b 0 → rnd ((p - q) * b) (2 ^ 149) < huge → rnd ((q - p) * b) (2 ^ 149) < huge
    → Is (x ⊗ y) (rnd ((p - q) * b) (2 ^ 149)) (rnd ((q - p) * b) (2 ^ 149))
unfolding mul
mul_is {x} {y} {p} {q} {b} X Y plus minus =
    record { fit = mul-fits binary32 x y; value = on_finite (λ x y. Value (2 ^ 149) (x ⊗ y) (g (p - q)) (g (q - p))) product x y X.value Y.value }
  where
    g : ℕ → ℕ
    g i = rnd (i * b) (2 ^ 149)

    g0 : g 0 ≡ 0
    g0 = rnd_zero (2 ^ 149) (pow_pos 149) (zero-mul b)

    -- a negative zero gives a zero of either sign
    nought : b ≡ 0 → (i : ℕ) → g i ≡ 0
    nought z i = rnd_zero (2 ^ 149) (pow_pos 149) (ap (λ (k : ℕ). i * k) z ∙ mul-zero i)

    signed : (u v : Bool) (n k : ℕ) → Split u n p q → Split v k b 0 → Split (unlike u v) (g n) (g (p - q)) (g (q - p))
    signed false false n k f h = map_split g g0 n p q false f
    signed true false n k f h = map_split g g0 n p q true f
    signed false true n k f h = let z : b ≡ 0 = omega arith in omega (arith, nought z n, nought z (p - q), nought z (q - p))
    signed true true n k f h = let z : b ≡ 0 = omega arith in omega (arith, nought z n, nought z (p - q), nought z (q - p))

    product : (u : Bool) (m : ℕ) (e : ℤ) (v : Bool) (n : ℕ) (d : ℤ) → Opened (2 ^ 149) u m e p q → Opened (2 ^ 149) v n d b 0
        → Value (2 ^ 149) (fin u m e ⊗ fin v n d) (g (p - q)) (g (q - p))
    product u m e v n d X Y =
        let k = X.n in
        signed_value (fin u m e ⊗ fin v n d) (unlike u v) (g k) (g (p - q)) (g (q - p))
        (round_value (unlike u v) (m * up e * (n * up d)) (down e * down d) (k * b) (2 ^ 149) (mul-pos (down_pos e) (down_pos d)) (pow_pos 149)
        (times (m * up e) (n * up d) k b (down e) (down d) (2 ^ 149) X.size (rw (alone v Y.n b Y.split) at Y.size))
        (bounded g g0 k p q u X.split plus minus))
        (signed u v k Y.n X.split Y.split)

pos_of : (N b dd W : ℕ) → 0 < b → 0 < dd → N * W ≡ b * dd → 0 < N
pos_of zero b dd W B D q = absurd (lt_irrefl 0 (subst (λ (k : ℕ). 0 < k) (sym q ∙ zero-mul W) (mul-pos B D)))
pos_of (suc N) b dd W B D q = zero-lt-suc N

pub div_is : {x y : Float} {p q b : ℕ} → Is x p q → Is y b 0 → 0 < b → rnd ((p - q) * 2 ^ 149) b < huge → rnd ((q - p) * 2 ^ 149) b < huge
    → Is (x ⊘ y) (rnd ((p - q) * 2 ^ 149) b) (rnd ((q - p) * 2 ^ 149) b)
unfolding div
div_is {x} {y} {p} {q} {b} X Y B plus minus =
    record { fit = div-fits binary32 x y; value = on_finite (λ x y. Value (2 ^ 149) (x ⊘ y) (g (p - q)) (g (q - p))) quotient x y X.value Y.value }
  where
    g : ℕ → ℕ
    g i = rnd (i * 2 ^ 149) b

    signed : (u v : Bool) (n k : ℕ) → Split u n p q → Split v k b 0 → Split (unlike u v) n p q
    signed false false n k f h = f
    signed true false n k f h = f
    signed u true n k f h = absurd (omega arith)

    quotient : (u : Bool) (m : ℕ) (e : ℤ) (v : Bool) (n : ℕ) (d : ℤ) → Opened (2 ^ 149) u m e p q → Opened (2 ^ 149) v n d b 0
        → Value (2 ^ 149) (fin u m e ⊘ fin v n d) (g (p - q)) (g (q - p))
    quotient u m e v n d X Y =
        let size : n * up d * 2 ^ 149 ≡ b * down d = rw (alone v Y.n b Y.split) at Y.size in
        let N : 0 < n * up d = pos_of (n * up d) b (down d) (2 ^ 149) B (down_pos d) size in
        rw (ne_eqb n 0 (λ z. omega (arith, first_pos n (up d) N)))
        (rounded (λ i. i * 2 ^ 149) (zero-mul (2 ^ 149)) b B X.n p q (m * up e * down d) (n * up d * down e) (mul-pos N (down_pos e))
        (over (m * up e) (n * up d) X.n b (down e) (down d) (2 ^ 149) X.size size) plus minus (unlike u v) (signed u v X.n Y.n X.split Y.split))

-- ---- the number is the value's
pub is_units : {x : Float} {p q : ℕ} → Is x p q → units x ≡ pos p -ℤ pos q
unfolding units
is_units {x} {p} {q} X = go x X.value
  where
    gap : (n p q : ℕ) → n + q ≡ p → pos n ≡ pos p -ℤ pos q
    gap n p q h = sym (+ℤ-neg_ℤ_cancel (pos n) (pos q)) ∙ ap (λ (k : ℕ). pos k -ℤ pos q) h

    signed : (s : Bool) (n : ℕ) → Split s n p q → cond s (neg_ℤ (pos n)) (pos n) ≡ pos p -ℤ pos q
    signed false n h = gap n p q h
    signed true n h =
        ap neg_ℤ (gap n q p h) ∙ neg_ℤ-+ℤ (pos q) (neg_ℤ (pos p)) ∙ ap (λ (k : ℤ). neg_ℤ (pos q) +ℤ k) (neg_ℤ-neg_ℤ (pos p)) ∙ +ℤ_comm (neg_ℤ (pos q)) (pos p)

    go : (x : Float) → Value (2 ^ 149) x p q → units x ≡ pos p -ℤ pos q
    go nan v = absurd v
    go (inf s) v = absurd v
    go (fin s m e) v = ap (λ (k : ℕ). cond s (neg_ℤ (pos k)) (pos k)) (ap (λ (k : ℕ). k / down e) v.size ∙ mul-div_cancel v.n (down_pos e)) ∙ signed s v.n v.split

-- every finite value has such numbers
pub is_of : (x : Float) → T (fits binary32 x) → T (finite x) → (p : ℕ) × (q : ℕ) × Is x p q
is_of nan t f = absurd f
is_of (inf s) t f = absurd f
is_of (fin false m e) t f = let h = held false m e t in (m * 2 ^ h.j, 0, record { fit = t; value = record { n = m * 2 ^ h.j; size = h.size; split = add-zero (m * 2 ^ h.j) } })
is_of (fin true m e) t f = let h = held true m e t in (0, m * 2 ^ h.j, record { fit = t; value = record { n = m * 2 ^ h.j; size = h.size; split = add-zero (m * 2 ^ h.j) } })
