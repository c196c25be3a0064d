-- An accepted NES step count is 2 to the power of its trailing zeros, which are 1 to 16: the depths that the oscillator takes. Assumes nothing.
use mathlib.Core.Path.{◌≡◌, refl, ap}
use mathlib.Core.Bool.{true, and-eq-true_iff}
use mathlib.Core.Logic.{◌⊎◌, inl, inr, ⊎_elim}
use Prim.Native.Nat.{ℕ, zero, suc, ◌/◌, ◌%◌, ◌^◌, ◌≤◌, ◌<◌}
use native.Mathlib.Nat.{pow-suc, mod-lt, div-add-mod', div-lt_iff_lt-mul, lt_of_not-le}
use native.Mathlib.Omega.{arith}
use borrow.Author.Tests.{eqb-true, leb-true}
use lib.Arith.{lt-one}
use lib.Dec.{lit<}
use lib.Pow.{pow_mono}
use lib.Count.{ones, ones_step, count_trailing_zeros, under}
use Rattle.jobs.specs.Record.{step_count_in}

half : {n : ℕ} (k : ℕ) → n < 2 ^ suc k → n / 2 < 2 ^ k
half k h = (div-lt_iff_lt-mul (lit< tt)).1 (rw (pow-suc 2 k) at h)

bit : (n : ℕ) → (n % 2 ≡ 0) ⊎ (n % 2 ≡ 1)
bit n = go (n % 2) (mod-lt n (lit< tt))
  where
    go : (d : ℕ) → d < 2 → (d ≡ 0) ⊎ (d ≡ 1)
    go zero h = inl refl
    go (suc zero) h = inr refl
    go (suc (suc d)) h = absurd (omega arith)

-- no bit is set in 0 alone
none : (k n : ℕ) → n < 2 ^ k → ones n ≡ 0 → n ≡ 0
none zero n h z = lt-one h
none (suc k) n h z =
    let r : n / 2 ≡ 0 = none k (n / 2) (half k h) (omega (arith, ones_step n)) in
    omega (arith, ones_step n, div-add-mod' n 2)

one_bit : (k n : ℕ) → n < 2 ^ k → ones n ≡ 1 → n ≡ 2 ^ count_trailing_zeros k n
unfolding count_trailing_zeros ones
one_bit zero n h o = absurd (omega (arith, ap ones (lt-one h)))
one_bit (suc k) n h o = ⊎_elim (even (λ e. one_bit k (n / 2) (half k h) (omega (arith, ones_step n)))) odd (bit n)
  where
    even : (n % 2 ≡ 0 → n / 2 ≡ 2 ^ count_trailing_zeros k (n / 2)) → n % 2 ≡ 0 → n ≡ 2 ^ under (n % 2) (count_trailing_zeros k (n / 2))
    even rest e = rw (e, pow-suc) (omega (arith, div-add-mod' n 2, rest e))

    odd : n % 2 ≡ 1 → n ≡ 2 ^ under (n % 2) (count_trailing_zeros k (n / 2))
    odd e = rw e (omega (arith, div-add-mod' n 2, none k (n / 2) (half k h) (omega (arith, ones_step n))))

depth : (n : ℕ) → ones n ≡ 1 → 2 ≤ n → n ≤ 65536 → (n ≡ 2 ^ count_trailing_zeros 32 n) × (1 ≤ count_trailing_zeros 32 n) × (count_trailing_zeros 32 n ≤ 16)
depth n o l h = let p = one_bit 32 n (omega arith) o in (p, low (count_trailing_zeros 32 n) p, high (count_trailing_zeros 32 n) p)
  where
    low : (t : ℕ) → n ≡ 2 ^ t → 1 ≤ t
    low zero p = absurd (omega arith)
    low (suc t) p = omega arith

    high : (t : ℕ) → n ≡ 2 ^ t → t ≤ 16
    high t p = omega (arith, lt_of_not-le (λ (g : 17 ≤ t). omega (arith, pow_mono g)))

pub accepted : (steps : ℕ) → step_count_in steps ≡ true → (steps ≡ 2 ^ count_trailing_zeros 32 steps) × (1 ≤ count_trailing_zeros 32 steps) × (count_trailing_zeros 32 steps ≤ 16)
accepted steps h =
    let p = (and-eq-true_iff _ _).0 h in
    let q = (and-eq-true_iff _ _).0 p.0 in
    depth steps (eqb-true (ones steps) 1 q.0) (leb-true 2 steps q.1) (leb-true steps 65536 p.1)
