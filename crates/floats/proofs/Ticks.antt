-- The lengths that a phase is measured in. A tick is 2 ^ -24, and 1.0, a cycle, is 16,777,216 ticks: below 2.0 a sum rounds by a tick at most, and 1.0 is taken off exactly.
-- `tick` stays shut, since `omega` reads no numeral above 38 digits: so every bound is linear in it. Assumes nothing.
use mathlib.Core.Path.{◌≡◌, refl, sym, ap, ◌∙◌, subst}
use Prim.Native.Nat.{ℕ, suc, ◌+◌, ◌*◌, ◌^◌, ◌≤◌, ◌<◌, ◌-◌}
use native.Mathlib.Nat.{le_trans, le_of_eq, le_of_lt, lt_of_le_of_lt, lt_of_not-le, not-le_of_lt, mul_assoc, mul_comm, pow-suc, suc-mul, mul-sub, mul-le-mul_right, lt_of_mul-lt-mul_right, sub-le, add-le-add_iff_right}
use native.Mathlib.Omega.{arith}
use mathlib.Core.Bool.{Bool, true, false, not}
use lib.Dec.{T, leb, leb→le, nleb→lt, lit≤}
use lib.Pow.{pow-add, pow_pos, pow_mono, shl_lt}
use lib.Ieee.{Float, fits, of_bits}
use lib.Ieee.Digits.{back}
use Rattle.floats.specs.F32.{◌⊕◌, ◌⊖◌, half32, one32, two32, eight32, sixteen32, max_frequency, top_step, top_string_step, top_sum}
use Rattle.floats.proofs.Rounding.{Within, rnd, rnd_exact, rnd_up, rnd_dn}
use Rattle.floats.proofs.At.{At, Even, huge, at_even, at_rnd, at_huge, add_at, sub_at}
pub use Rattle.floats.proofs.At.{zero_at}

-- 2 ^ -24 in units
unfoldable pub tick : ℕ
tick = 2 ^ 125

-- 1.0 in units
abbrev pub cycle : ℕ
cycle = 16777216 * tick

pub cycle_is : cycle ≡ 2 ^ 149
unfolding tick
cycle_is = refl

pub tick_pos : 0 < tick
unfolding tick
tick_pos = pow_pos 125

-- ---- the constants
pub half_at : At half32 (8388608 * tick)
unfolding tick fits of_bits
half_at = record { fit = tt; reads = refl }

pub one_at : At one32 cycle
unfolding tick fits of_bits
one_at = record { fit = tt; reads = refl }

pub two_at : At two32 (2 * cycle)
unfolding tick fits of_bits
two_at = record { fit = tt; reads = refl }

pub eight_at : At eight32 (8 * cycle)
unfolding tick fits of_bits
eight_at = record { fit = tt; reads = refl }

pub sixteen_at : At sixteen32 (16 * cycle)
unfolding tick fits of_bits
sixteen_at = record { fit = tt; reads = refl }

pub max_frequency_at : At max_frequency (4194304 * tick)
unfolding tick fits of_bits
max_frequency_at = record { fit = tt; reads = refl }

pub top_step_at : At top_step (4456448 * tick)
unfolding tick fits of_bits
top_step_at = record { fit = tt; reads = refl }

pub top_string_step_at : At top_string_step (8912896 * tick)
unfolding tick fits of_bits
top_string_step_at = record { fit = tt; reads = refl }

pub top_sum_at : At top_sum (21233664 * tick)
unfolding tick fits of_bits
top_sum_at = record { fit = tt; reads = refl }

-- ---- an exact difference
gap : (k j : ℕ) → 23 + k < 24 + j → k ≤ j
gap k j h = omega arith

pub pow_lt_inv : (i j : ℕ) → 2 ^ i < 2 ^ j → i < j
pow_lt_inv i j h = lt_of_not-le (λ (g : j ≤ i). not-le_of_lt h (pow_mono g))

-- a value of binary32 from 2 ^ (23 + k) units up is a multiple of 2 ^ k
pub coarse : {n : ℕ} (k : ℕ) → Even n → 2 ^ (23 + k) ≤ n → (r : ℕ) × (n ≡ r * 2 ^ k)
coarse {n} k e h =
    let up : n < 2 ^ (24 + e.j) = rw e.is (shl_lt 24 e.j e.small) in
    let l : k ≤ e.j = gap k e.j (pow_lt_inv (23 + k) (24 + e.j) (lt_of_le_of_lt h up)) in
    let i = e.j - k in
    (e.q * 2 ^ i, e.is ∙ ap (λ (x : ℕ). e.q * 2 ^ x) (sym (back e.j k l)) ∙ ap (λ (x : ℕ). e.q * x) (pow-add 2 i k) ∙ sym (mul_assoc e.q (2 ^ i) (2 ^ k)))

fewer : (r c : ℕ) → r < 16777216 → r - c < 16777216
fewer r c h = omega arith

-- c * 2 ^ k taken off an n between 2 ^ (23 + k) and 2 ^ (24 + k)
pub rnd_sub : {n : ℕ} (k c : ℕ) → Even n → 2 ^ (23 + k) ≤ n → n < 2 ^ (24 + k) → rnd (n - c * 2 ^ k) 1 ≡ n - c * 2 ^ k
rnd_sub {n} k c e lo hi =
    let r = coarse k e lo in
    let small : r.0 < 2 ^ 24 = lt_of_mul-lt-mul_right (2 ^ k) (subst (λ (x : ℕ). x < 2 ^ 24 * 2 ^ k) r.1 (subst (λ (x : ℕ). n < x) (pow-add 2 24 k) hi)) in
    let is : n - c * 2 ^ k ≡ (r.0 - c) * 2 ^ k =
    ap (λ (x : ℕ). x - c * 2 ^ k) (r.1 ∙ mul_comm r.0 (2 ^ k)) ∙ ap (λ (x : ℕ). 2 ^ k * r.0 - x) (mul_comm c (2 ^ k))
    ∙ sym (mul-sub (2 ^ k) r.0 c) ∙ mul_comm (2 ^ k) (r.0 - c) in
    ap (λ (x : ℕ). rnd x 1) is ∙ rnd_exact (r.0 - c) k (fewer r.0 c small) ∙ sym is

-- below 2 c lies one binary digit more
pub double : {w : ℕ} (j : ℕ) → w ≡ 2 ^ (24 + j) → w + w ≡ 2 ^ (25 + j)
double j e = omega (arith, pow-suc 2 (24 + j), ap (λ (x : ℕ). 2 ^ x) next)
  where
    next : suc (24 + j) ≡ 25 + j
    next = omega arith

-- s - c for a c of 2 ^ (24 + j) units, and s from c up and below 2 c
pub wrap : {s c : Float} {n w : ℕ} (j : ℕ) → w ≡ 2 ^ (24 + j) → At s n → At c w → w ≤ n → n < w + w → At (s ⊖ c) (n - w)
wrap {s} {c} {n} {w} j e p q lo hi =
    subst (λ (x : ℕ). At (s ⊖ c) x) exact (sub_at p q lo (subst (λ (x : ℕ). x < huge) (sym exact) (lt_of_le_of_lt (sub-le n w) (at_huge p))))
  where
    same : (24 + j ≡ 23 + suc j) × (25 + j ≡ 24 + suc j)
    same = omega arith

    length : w ≡ 2 ^ (23 + suc j)
    length = e ∙ ap (λ (x : ℕ). 2 ^ x) same.0

    exact : rnd (n - w) 1 ≡ n - w
    exact =
        subst (λ (x : ℕ). rnd (n - x) 1 ≡ n - x) (sym (length ∙ pow-add 2 23 (suc j)))
        (rnd_sub (suc j) 8388608 (at_even p) (subst (λ (x : ℕ). x ≤ n) length lo) (subst (λ (x : ℕ). n < x) (double j e ∙ ap (λ (x : ℕ). 2 ^ x) same.1) hi))

-- s - 1 for s from 1 up and below 2
pub wrap_1 : {s : Float} {n : ℕ} → At s n → cycle ≤ n → n < 2 * cycle → At (s ⊖ one32) (n - cycle)
unfolding tick
wrap_1 p lo hi = wrap 125 refl p one_at lo hi

-- ---- x + y: what the sum is, for a bound B that binary32 holds
pub record Sum (z : Float) (a b B e : ℕ) : Type 0 where
  pub n : ℕ
  pub at : At z n
  pub near : Within n (a + b) e
  pub least : a ≤ n
  pub top : n ≤ B

pub sum_with : {x y : Float} {a b : ℕ} (B e : ℕ) → At x a → At y b → rnd B 1 ≡ B → B < huge → a + b ≤ B → Within (rnd (a + b) 1) (a + b) e → Sum (x ⊕ y) a b B e
sum_with {x} {y} {a} {b} B e p q r h l w =
    let t : rnd (a + b) 1 ≤ B = rnd_up r l in
    record {
      n = rnd (a + b) 1;
      at = add_at p q (lt_of_le_of_lt t h);
      near = w;
      least = rnd_dn (at_rnd p) (omega arith);
      top = t;
    }

-- ---- a value below 1 is 1 - 2 ^ -24 at most
pub below_one : {x : Float} {a : ℕ} → At x a → a < cycle → a + tick ≤ cycle
unfolding tick
below_one {x} {a} p h = go (leb (2 ^ 148) a) (leb→le (2 ^ 148) a) (nleb→lt (2 ^ 148) a)
  where
    step : (r : ℕ) → r * 2 ^ 125 < 2 ^ 24 * 2 ^ 125 → r * 2 ^ 125 + 2 ^ 125 ≤ 2 ^ 149
    step r l = le_trans (le_of_eq (sym (suc-mul r (2 ^ 125)))) (mul-le-mul_right (2 ^ 125) (lt_of_mul-lt-mul_right (2 ^ 125) {m = r} {n = 2 ^ 24} l))

    go : (t : Bool) → (T t → 2 ^ 148 ≤ a) → (T (not t) → a < 2 ^ 148) → a + 2 ^ 125 ≤ 2 ^ 149
    go true lo hi =
        let r = coarse 125 (at_even p) (lo tt) in
        subst (λ (k : ℕ). k + 2 ^ 125 ≤ 2 ^ 149) (sym r.1) (step r.0 (subst (λ (k : ℕ). k < 2 ^ 149) r.1 h))
    go false lo hi = le_trans ((add-le-add_iff_right (2 ^ 125)).1 (le_of_lt (hi tt))) (lit≤ tt)
