-- Rounding to binary32 over whole numbers: n / d units become the nearest multiple of 2 ^ k units, a tie the even one, where k is how many digits of the whole part exceed 24.
-- A unit is 2 ^ -149, binary32's smallest value. Nothing here is about floats.
-- The kit proves some of this for any number of digits, but keeps it to itself, so that it stands here again for 24: of `lib.Ieee.Order` size_mono, same_drop (here `same_cut`),
-- kept_le, all_in_use, kept_ge, fewer, room and grid_mono (`rnd_mono`); of `lib.Ieee.Nearest` Cmp and cmp (`Compared`, `compared`); of `lib.Ieee.Exact` above_zero and
-- spare (`less`). What the kit has not are the bounds on an error (`closest_err`, `rnd_err`, `rnd_off`) and `rnd_exact` over whole numbers. Assumes nothing.
use mathlib.Core.Path.{◌≡◌, sym, ap, ◌∙◌, subst}
use mathlib.Core.Logic.{inl, inr}
use Prim.Native.Nat.compare
use Prim.Native.Nat.{ℕ, zero, suc, ◌+◌, ◌*◌, ◌/◌, ◌%◌, ◌^◌, ◌≤◌, ◌<◌, zero-le, compare, Ordering, ◌-◌}
use native.Mathlib.Nat.{le_trans, le_of_eq, le_antisymm, lt_irrefl, lt_of_le_of_lt, eq-or-lt_of_le, zero-lt-suc, zero-mul, mul-one, one-mul, mul_comm, mul_assoc, mul_left_comm, mul-le-mul_left, mul-le-mul_right, mul-pos, mod-lt, div-add-mod', div-one, div-div-eq-div-mul, le-div_iff_mul-le, div-lt_iff_lt-mul, mul-div_cancel, mul-mod_left, pow-suc}
use native.Mathlib.Omega.{arith}
use mathlib.Core.Bool.{not}
use lib.Dec.{T, is_le, compare_is_eq, eqb, leb→le, nleb→lt, eqb→eq, eqb_refl, lit<}
use lib.Arith.{lt_of_le-ne}
use lib.Pow.{pow-add, pow_pos, pow_mono, shl_lt}
use lib.Ieee.{size, nearest}
use lib.Ieee.Digits.{size-lt, size-le, size_reaches, back}
use lib.Ieee.Fits.{kept-lt, nearest-le}
use lib.Ieee.Nearest.{closest, closest_mono, nearest-ge, div_mono}
use lib.Ieee.Order.{drop, kept}

-- a and b differ by at most e
abbrev pub Within : ℕ → ℕ → ℕ → Type 0
Within a b e = (a ≤ b + e) × (b ≤ a + e)

-- how many digits of n / d are dropped
abbrev pub cut : ℕ → ℕ → ℕ
cut n d = drop 24 n d

-- n / d units, rounded to binary32, in units: what the kit's `round` gives where it does not overflow
unfoldable pub rnd : ℕ → ℕ → ℕ
rnd n d = kept 24 n d * 2 ^ cut n d

-- ---- the nearest whole number is off by a half at most
-- what `compare` says
abbrev Compared : Ordering → ℕ → ℕ → Type 0
Compared Ordering.lt a b = a < b
Compared Ordering.eq a b = a ≡ b
Compared Ordering.gt a b = b < a

compared : (a b : ℕ) → Compared (compare a b) a b
compared a b = go (compare a b) (leb→le a b) (nleb→lt a b) (eqb→eq a b) (λ (e : a ≡ b). subst (λ (x : ℕ). T (eqb a x)) e (eqb_refl a))
  where
    go : (o : Ordering) → (T (is_le o) → a ≤ b) → (T (not (is_le o)) → b < a) → (T (compare_is_eq o) → a ≡ b) → (a ≡ b → T (compare_is_eq o)) → Compared o a b
    go Ordering.lt h k e n = lt_of_le-ne (h tt) n
    go Ordering.eq h k e n = e tt
    go Ordering.gt h k e n = k tt

parity : (q : ℕ) → q % 2 ≤ 1
parity q = omega arith

near : (n u q r : ℕ) (o : Ordering) → q * u + r ≡ n → r < u → Compared o (r * 2) u → Within (nearest q o * u * 2) (n * 2) u
near n u q r Ordering.lt e l h = omega arith
near n u q r Ordering.eq e l h = tie (q % 2) (mul-le-mul_right u (parity q))
  where
    tie : (t : ℕ) → t * u ≤ 1 * u → Within ((q + t) * u * 2) (n * 2) u
    tie t j = omega arith
near n u q r Ordering.gt e l h = omega arith

pub closest_err : (n u : ℕ) → 0 < u → Within (closest n u * u * 2) (n * 2) u
closest_err n u U = near n u (n / u) (n % u) (compare (n % u * 2) u) (div-add-mod' n u) (mod-lt n U) (compared (n % u * 2) u)

less : (z p l : ℕ) → z ≤ p + l → z - p ≤ l
less z p l h = omega arith

widen : (a b c d e : ℕ) → a ≡ c → d ≤ e → Within a b d → Within c b e
widen a b c d e p h w = omega arith

-- below 2 ^ (24 + k) units the error is at most half of 2 ^ k
pub rnd_err : (n d k : ℕ) → 0 < d → n < 2 ^ (24 + k) * d → Within (rnd n d * d * 2) (n * 2) (d * 2 ^ k)
unfolding rnd
rnd_err n d k D h =
    let j = cut n d in
    let c = closest n (d * 2 ^ j) in
    let J : j ≤ k = less (size (n / d)) 24 k (size-le (n / d) (24 + k) ((div-lt_iff_lt-mul D).1 h)) in
    widen (c * (d * 2 ^ j) * 2) (n * 2) (c * 2 ^ j * d * 2) (d * 2 ^ j) (d * 2 ^ k)
    (simp (mul_assoc, mul_comm, mul_left_comm))
    (mul-le-mul_left d (pow_mono J))
    (closest_err n (d * 2 ^ j) (mul-pos D (pow_pos j)))

halve : (r n E t : ℕ) → E ≡ t * 2 → Within (r * 1 * 2) (n * 2) (1 * E) → Within r n t
halve r n E t e w = omega arith

-- the same for whole numbers: at most 2 ^ k below 2 ^ (25 + k)
pub rnd_off : (n k : ℕ) → n < 2 ^ (25 + k) → Within (rnd n 1) n (2 ^ k)
rnd_off n k h =
    halve (rnd n 1) n (2 ^ suc k) (2 ^ k) (pow-suc 2 k)
    (rnd_err n 1 (suc k) (zero-lt-suc 0) (subst (λ (x : ℕ). n < x) (ap (λ (x : ℕ). 2 ^ x) shift ∙ sym (mul-one (2 ^ (24 + suc k)))) h))
  where
    shift : 25 + k ≡ 24 + suc k
    shift = omega arith

-- ---- a larger number rounds to one that is no smaller
size_mono : (a b : ℕ) → a ≤ b → size a ≤ size b
size_mono a b h = size-le a (size b) (lt_of_le_of_lt h (size-lt b))

same_cut : (k a b c d : ℕ) → 0 < b → 0 < d → a * d ≤ c * b → closest a (b * 2 ^ k) * 2 ^ k ≤ closest c (d * 2 ^ k) * 2 ^ k
same_cut k a b c d B D h =
    mul-le-mul_right (2 ^ k)
    (closest_mono a (b * 2 ^ k) c (d * 2 ^ k) (mul-pos B (pow_pos k)) (mul-pos D (pow_pos k))
    (le_trans (le_of_eq (sym (mul_assoc a d (2 ^ k)))) (le_trans (mul-le-mul_right (2 ^ k) h) (le_of_eq (mul_assoc c b (2 ^ k))))))

kept_le : (n d : ℕ) → closest n (d * 2 ^ cut n d) ≤ 2 ^ 24
kept_le n d =
    let k = cut n d in
    let u = d * 2 ^ k in
    le_trans (nearest-le (n / u) (compare (n % u * 2) u)) (subst (λ (x : ℕ). x < 2 ^ 24) (div-div-eq-div-mul n d (2 ^ k)) (kept-lt 24 (n / d)))

all_in_use : (z : ℕ) → 0 < z - 24 → 23 + (z - 24) < z
all_in_use z h = omega arith

kept_ge : (n d : ℕ) → 0 < cut n d → 2 ^ 23 ≤ closest n (d * 2 ^ cut n d)
kept_ge n d K =
    let k = cut n d in
    let u = d * 2 ^ k in
    let w = n / d in
    let a : 2 ^ 23 * 2 ^ k ≤ w = le_trans (le_of_eq (sym (pow-add 2 23 k))) (size_reaches w (23 + k) (all_in_use (size w) K)) in
    le_trans (subst (λ (x : ℕ). 2 ^ 23 ≤ x) (div-div-eq-div-mul n d (2 ^ k)) ((le-div_iff_mul-le (pow_pos k)).1 a)) (nearest-ge (n / u) (compare (n % u * 2) u))

fewer : (x y : ℕ) → x ≤ y → x - 24 ≤ y - 24
fewer x y h = omega arith

room : (j k : ℕ) → j < k → 24 + j ≤ 23 + k
room j k h = omega arith

pub rnd_mono : (a b c d : ℕ) → 0 < b → 0 < d → a * d ≤ c * b → rnd a b ≤ rnd c d
unfolding rnd
rnd_mono a b c d B D h =
    let j = cut a b in
    let k = cut c d in
    elim (eq-or-lt_of_le (fewer (size (a / b)) (size (c / d)) (size_mono (a / b) (c / d) (div_mono a b c d B D h)))) [
      | inl e ↦ subst (λ (x : ℕ). closest a (b * 2 ^ x) * 2 ^ x ≤ closest c (d * 2 ^ k) * 2 ^ k) (sym e) (same_cut k a b c d B D h)
      | inr l ↦
          le_trans (mul-le-mul_right (2 ^ j) (kept_le a b))
          (le_trans (le_of_eq (sym (pow-add 2 24 j)))
          (le_trans (pow_mono (room j k l))
          (le_trans (le_of_eq (pow-add 2 23 k)) (mul-le-mul_right (2 ^ k) (kept_ge c d (lt_of_le_of_lt zero-le l))))))
    ]

-- it sees only the value of its fraction
pub rnd_same : (a b c d : ℕ) → 0 < b → 0 < d → a * d ≡ c * b → rnd a b ≡ rnd c d
rnd_same a b c d B D e = le_antisymm (rnd_mono a b c d B D (le_of_eq e)) (rnd_mono c d a b D B (le_of_eq (sym e)))

-- against a bound that binary32 holds
pub rnd_up : {n B : ℕ} → rnd B 1 ≡ B → n ≤ B → rnd n 1 ≤ B
rnd_up {n} {B} e h = le_trans (rnd_mono n 1 B 1 (zero-lt-suc 0) (zero-lt-suc 0) (mul-le-mul_right 1 h)) (le_of_eq e)

pub rnd_dn : {n B : ℕ} → rnd B 1 ≡ B → B ≤ n → B ≤ rnd n 1
rnd_dn {n} {B} e h = le_trans (le_of_eq (sym e)) (rnd_mono B 1 n 1 (zero-lt-suc 0) (zero-lt-suc 0) (mul-le-mul_right 1 h))

-- ---- where it changes nothing: at q * 2 ^ j with q of 24 digits
above_zero : (u : ℕ) → 0 < u → compare 0 u ≡ Ordering.lt
above_zero zero h = absurd (lt_irrefl 0 h)
above_zero (suc u) h = compare.zero-suc u

closest_exact : (q u : ℕ) → 0 < u → closest (q * u) u ≡ q
closest_exact q u U =
    ap (λ (x : ℕ). nearest x (compare (q * u % u * 2) u)) (mul-div_cancel q U)
    ∙ ap (λ (x : ℕ). nearest q (compare (x * 2) u)) (mul-mod_left q u)
    ∙ ap (λ (o : Ordering). nearest q o) (above_zero u U)

pub rnd_exact : (q j : ℕ) → q < 2 ^ 24 → rnd (q * 2 ^ j) 1 ≡ q * 2 ^ j
unfolding rnd
rnd_exact q j h =
    let n = q * 2 ^ j in
    let k = cut n 1 in
    let w : n / 1 < 2 ^ (24 + j) = subst (λ (x : ℕ). x < 2 ^ (24 + j)) (sym (div-one n)) (shl_lt 24 j h) in
    let K : k ≤ j = less (size (n / 1)) 24 j (size-le (n / 1) (24 + j) w) in
    let r = q * 2 ^ (j - k) in
    let e : r * 2 ^ k ≡ n = mul_assoc q (2 ^ (j - k)) (2 ^ k) ∙ ap (λ (x : ℕ). q * x) (sym (pow-add 2 (j - k) k) ∙ ap (λ (x : ℕ). 2 ^ x) (back j k K)) in
    ap (λ (x : ℕ). closest n x * 2 ^ k) (one-mul (2 ^ k))
    ∙ ap (λ (x : ℕ). closest x (2 ^ k) * 2 ^ k) (sym e)
    ∙ ap (λ (x : ℕ). x * 2 ^ k) (closest_exact r (2 ^ k) (pow_pos k))
    ∙ e

pub rnd_zero : {n : ℕ} (d : ℕ) → 0 < d → n ≡ 0 → rnd n d ≡ 0
rnd_zero d D e =
    ap (λ (k : ℕ). rnd k d) e ∙ rnd_same 0 d 0 1 D (zero-lt-suc 0) (zero-mul 1 ∙ sym (zero-mul d)) ∙ rnd_exact 0 0 (lit< tt)
