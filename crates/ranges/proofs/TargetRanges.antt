-- Where the targets of a block lie: a frequency that is clipped, and a width that is clamped by it. Lower ends are variables where an oscillator clips a product of its own.
-- Assumes nothing.
use mathlib.Core.Path.{◌≡◌, refl, sym, ◌∙◌, subst}
use mathlib.Core.Bool.{Bool, true, false, cond, true≢false}
use mathlib.Core.Logic.{◌⊎◌, inl, inr}
use Prim.Native.Nat.{ℕ, ◌+◌, ◌-◌, ◌*◌, ◌^◌, ◌≤◌, ◌<◌, zero-le}
use native.Mathlib.Nat.{le_trans as le-trans-ℕ, lt_of_le_of_lt, mul-one, mul_comm, mul_assoc}
use native.Mathlib.Omega.{arith}
use lib.Dec.{T, lit<, lit≤}
use lib.Pow.{pow_pos}
use lib.Ieee.{Float, binary32, lt, le, is_nan, fits, of_bits}
use lib.Ieee.Fits.{cond-fits, sub-fits, mul-fits}
use Rattle.floats.specs.F32.{f32, ◌⊖◌, ◌⊗◌, zero32, one32, two32, half32, min_frequency, max_frequency}
use Rattle.floats.specs.Helpers.{clamp_of, at_least}
use Rattle.floats.proofs.Bools.{and_both}
use Rattle.floats.proofs.Rounding.{rnd, rnd_same, rnd_up, rnd_dn}
use Rattle.floats.proofs.At.{At, huge, size_of, at_rnd, at_huge, mul_at, sub_at}
use Rattle.floats.proofs.Order.{le_trans, lt→le, numbers, not_le_lt, le_or_lt}
use Rattle.floats.proofs.PowerOfTwo.{mul_pow}
use Rattle.floats.proofs.Ranges.{at_le, passes_le, passed_le}
use Rattle.floats.proofs.Ticks.{tick, cycle, zero_at, one_at, half_at, two_at, max_frequency_at}
use Rattle.ranges.specs.Ranges.{within, parameter_frequency_in, unit_in}
use Rattle.ranges.specs.Targets.{clipped, clamped_width}

-- 2 ^ -24, a tick: no frequency and no width is sent to less
abbrev pub least_target : Float
least_target = f32 0x3380_0000

pub least_target_at : At least_target tick
unfolding tick fits of_bits
least_target_at = record { fit = tt; reads = refl }

-- ---- a frequency
max_itself : le max_frequency max_frequency ≡ true
unfolding le of_bits
max_itself = refl

pub clipped_in : (low f : Float) → le low f ≡ true → le low max_frequency ≡ true → within low max_frequency (clipped f) ≡ true
clipped_in low f h l = go (le max_frequency f) refl
  where
    go : (o : Bool) → le max_frequency f ≡ o → within low max_frequency (cond o max_frequency f) ≡ true
    go true e = rw (l, max_itself)
    go false e = rw (h, lt→le f max_frequency (not_le_lt max_frequency f (numbers low max_frequency l).1 (numbers low f h).1 e))

pub clipped_fits : (f : Float) → T (fits binary32 f) → T (fits binary32 (clipped f))
clipped_fits f t = cond-fits binary32 (le max_frequency f) max_frequency f max_frequency_at.fit t

pub least_min : le least_target min_frequency ≡ true
unfolding le of_bits
least_min = refl

pub least_max : le least_target max_frequency ≡ true
unfolding le of_bits
least_max = refl

pub min_at : At min_frequency (8796093 * 2 ^ 106)
unfolding fits of_bits
min_at = record { fit = tt; reads = refl }

min_ticks : 16 * tick ≤ 8796093 * 2 ^ 106
unfolding tick
min_ticks = lit≤ tt

-- a parameter that passed its test: 16 ticks or more, and 1 at most
pub parameter_at : {f : Float} → T (fits binary32 f) → parameter_frequency_in f ≡ true → At f (size_of f) × (16 * tick ≤ size_of f) × (size_of f ≤ cycle)
parameter_at {f} t h =
    let p = and_both _ _ h in
    let F = at_le t (le_trans zero32 min_frequency f (passes_le zero_at min_at zero-le) p.0) p.1 one_at in
    (F, le-trans-ℕ min_ticks (passed_le min_at F p.0), passed_le F one_at p.1)

-- its target
pub frequency_target_lem : (f : Float) → parameter_frequency_in f ≡ true → within least_target max_frequency (clipped f) ≡ true
frequency_target_lem f h = clipped_in least_target f (le_trans least_target min_frequency f least_min (and_both (le min_frequency f) (le f one32) h).0) least_max

-- ---- a clamp between numbers
pub clamp_in : (x low high N W : Float) → is_nan x ≡ false → le N low ≡ true → le N high ≡ true → le high W ≡ true → within N W (clamp_of x low high) ≡ true
clamp_in x low high N W X a b c = go (lt high (at_least x low)) refl
  where
    at_least_lem : (o : Bool) → lt x low ≡ o → (le N (cond o low x) ≡ true) × (is_nan (cond o low x) ≡ false)
    at_least_lem true e = (a, (numbers N low a).1)
    at_least_lem false e = (from (le_or_lt low x (numbers N low a).1 X), X)
      where
        from : (le low x ≡ true) ⊎ (lt x low ≡ true) → le N x ≡ true
        from (inl h) = le_trans N low x a h
        from (inr h) = absurd (true≢false (sym h ∙ e))

    y : (le N (at_least x low) ≡ true) × (is_nan (at_least x low) ≡ false)
    y = at_least_lem (lt x low) refl

    go : (o : Bool) → lt high (at_least x low) ≡ o → within N W (cond o high (at_least x low)) ≡ true
    go true e = rw (b, c)
    go false e = rw (y.0, top (le_or_lt (at_least x low) high y.1 (numbers high W c).0))
      where
        top : (le (at_least x low) high ≡ true) ⊎ (lt high (at_least x low) ≡ true) → le (at_least x low) W ≡ true
        top (inl h) = le_trans (at_least x low) high W h c
        top (inr h) = absurd (true≢false (sym h ∙ e))

-- ---- a width
-- the two ends of its clamp, for a frequency of b units
module _ {f : Float} {b : ℕ} (F : At f b) (h : b ≤ 4194304 * tick) where
  fits_2 : b * 2 < huge
  fits_2 = lt_of_le_of_lt (go b tick h) (at_huge one_at)
    where
      go : (b t : ℕ) → b ≤ 4194304 * t → b * 2 ≤ 16777216 * t
      go b t h = omega arith

  low_at : At (f ⊗ two32) (b * 2)
  unfolding tick
  low_at = mul_pow 1 F two_at fits_2

  twice_at : At (two32 ⊗ f) (b * 2)
  unfolding tick
  twice_at = subst (λ (k : ℕ). At (two32 ⊗ f) k) same (mul_at two_at F (subst (λ (k : ℕ). k < huge) (sym same) fits_2))
    where
      same : rnd (2 ^ 1 * 2 ^ 149 * b) (2 ^ 149) ≡ b * 2
      same =
          rnd_same (2 ^ 1 * 2 ^ 149 * b) (2 ^ 149) (b * 2) 1 (pow_pos 149) (lit< tt)
          (mul-one (2 ^ 1 * 2 ^ 149 * b) ∙ mul_comm (2 ^ 1 * 2 ^ 149) b ∙ sym (mul_assoc b 2 (2 ^ 149)))
          ∙ at_rnd low_at

  high_at : At (one32 ⊖ two32 ⊗ f) (rnd (cycle - b * 2) 1)
  high_at = sub_at one_at twice_at (omega arith) (lt_of_le_of_lt (rnd_up (at_rnd one_at) (omega arith)) (at_huge one_at))

-- no less than low, which two frequencies reach, and no more than high
pub width_clamp_in : {f low high : Float} {b c d : ℕ} (pw : Float) → At f b → At low c → At high d → b ≤ 4194304 * tick → c ≤ b * 2 → c ≤ 8388608 * tick → cycle ≤ d + b * 2
    → unit_in pw ≡ true → within low high (clamp_of pw (f ⊗ two32) (one32 ⊖ two32 ⊗ f)) ≡ true
width_clamp_in {f} {low} {high} {b} pw F C D h i j m u =
    clamp_in pw (f ⊗ two32) (one32 ⊖ two32 ⊗ f) low high (numbers pw one32 (and_both (le zero32 pw) (le pw one32) u).1).0 (passes_le C (low_at F h) i)
    (passes_le C (high_at F h) (omega (arith, half_low))) (passes_le (high_at F h) D (rnd_up (at_rnd D) (omega arith)))
  where
    half_low : 8388608 * tick ≤ rnd (cycle - b * 2) 1
    half_low = rnd_dn (at_rnd half_at) (omega arith)

pub width_in : {f low high : Float} {b c d : ℕ} (pw : Float) → At f b → At low c → At high d → b ≤ 4194304 * tick → c ≤ b * 2 → c ≤ 8388608 * tick → 8388608 * tick ≤ d → cycle ≤ d + b * 2
    → unit_in pw ≡ true → within low high (clamped_width f pw) ≡ true
width_in {f} {low} {high} pw F C D h i j l m u = go (le max_frequency f)
  where
    go : (o : Bool) → within low high (cond o half32 (clamp_of pw (f ⊗ two32) (one32 ⊖ two32 ⊗ f))) ≡ true
    go true = rw (passes_le C half_at j, passes_le half_at D l)
    go false = width_clamp_in pw F C D h i j m u

pub width_clamp_fits : (f pw : Float) → T (fits binary32 pw) → T (fits binary32 (clamp_of pw (f ⊗ two32) (one32 ⊖ two32 ⊗ f)))
width_clamp_fits f pw t =
    let low = f ⊗ two32 in
    let high = one32 ⊖ two32 ⊗ f in
    cond-fits binary32 (lt high (at_least pw low)) high (at_least pw low) (sub-fits binary32 one32 (two32 ⊗ f)) (cond-fits binary32 (lt pw low) low pw (mul-fits binary32 f two32) t)

pub width_fits : (f pw : Float) → T (fits binary32 pw) → T (fits binary32 (clamped_width f pw))
width_fits f pw t = cond-fits binary32 (le max_frequency f) half32 (clamp_of pw (f ⊗ two32) (one32 ⊖ two32 ⊗ f)) half_at.fit (width_clamp_fits f pw t)

-- of a clipped frequency and a parameter that passed its test
pub width_target_lem : (f pw : Float) → T (fits binary32 f) → within least_target max_frequency f ≡ true → unit_in pw ≡ true → le least_target (clamped_width f pw) ≡ true
width_target_lem f pw t h u =
    let p = and_both (le least_target f) (le f max_frequency) h in
    let F = at_le t (le_trans zero32 least_target f (passes_le zero_at least_target_at zero-le) p.0) p.1 max_frequency_at in
    let l = passed_le least_target_at F p.0 in
    (and_both _ _ (width_in pw F least_target_at one_at (passed_le F max_frequency_at p.1) (omega arith) (omega arith) (omega arith) (omega arith) u)).0
