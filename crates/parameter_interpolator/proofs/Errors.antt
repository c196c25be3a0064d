-- How far rounding to binary32 is off, in 16,777,216ths (2 ^ -24) of a unit: by no more than the number itself, where that is not tiny. Nothing here is about floats. Assumes nothing.
use Rattle.std.proofs.Common.{◌≡◌, ℕ, zero, suc, ◌+◌, ◌-◌, ◌*◌, ◌/◌, ◌^◌, ◌<◌, ◌≤◌, sym, refl, ap, ◌∙◌, le_trans, le_of_eq, lt_of_lt_of_le, mul_assoc, mul_comm, div-lt_iff_lt-mul, le-div_iff_mul-le, mul-one, arith, pow_mono, pow-add}
use lib.Ieee.{size}
use lib.Ieee.Digits.{size-lt, size_reaches}
use Rattle.floats.proofs.Rounding.{Within, rnd, cut, rnd_err}

all_digits : (z : ℕ) → z ≤ 24 + (z - 24)
all_digits z = omega arith

in_use : (z j : ℕ) → suc j ≡ z - 24 → 23 + suc j < z
in_use z j e = omega arith

widen : (R n X E : ℕ) → 8388608 * X ≤ E → Within (R * 2) (n * 2) X → Within (16777216 * R) (16777216 * n) E
widen R n X E h w = omega arith

-- n / d rounded, times d, against n: for an E that is no less than n, nor than 8,388,608 d
pub rnd_relative : (n d E : ℕ) → 0 < d → n ≤ E → 8388608 * d ≤ E → Within (16777216 * (rnd n d * d)) (16777216 * n) E
rnd_relative n d E D h l = widen (rnd n d * d) n (d * 2 ^ cut n d) E (last_digit (cut n d) refl) (rnd_err n d (cut n d) D below)
  where
    below : n < 2 ^ (24 + cut n d) * d
    below = (div-lt_iff_lt-mul D).0 (lt_of_lt_of_le (size-lt (n / d)) (pow_mono (all_digits (size (n / d)))))

    last_digit : (j : ℕ) → j ≡ cut n d → 8388608 * (d * 2 ^ j) ≤ E
    last_digit zero e = le_trans (le_of_eq (ap (λ (k : ℕ). 8388608 * k) (mul-one d))) l
    last_digit (suc j) e =
        let a : 2 ^ (23 + suc j) * d ≤ n = (le-div_iff_mul-le D).0 (size_reaches (n / d) (23 + suc j) (in_use (size (n / d)) j e)) in
        let b : 8388608 * (d * 2 ^ suc j) ≡ 2 ^ (23 + suc j) * d =
        ap (λ (k : ℕ). 8388608 * k) (mul_comm d (2 ^ suc j)) ∙ sym (mul_assoc 8388608 (2 ^ suc j) d) ∙ ap (λ (k : ℕ). k * d) (sym (pow-add 2 23 (suc j))) in
        le_trans (le_of_eq b) (le_trans a h)
