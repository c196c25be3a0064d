-- The digits that `io::decimal` writes are the definition's, and are at most ten. Assumes nothing.
use mathlib.Core.Path.{◌≡◌}
use mathlib.Core.Bool.{Bool, true, false, cond}
use mathlib.Core.List.{List, [], ◌∷◌, ◌++◌}
use Prim.Native.Nat.{ℕ, zero, suc, ◌+◌, ◌/◌, ◌%◌, ◌^◌, ◌≤◌, ◌<◌, ◌-◌}
use native.Mathlib.Nat.{mod-eq_of_lt, mod-lt, pow-suc, div-lt_iff_lt-mul, le-div_iff_mul-le}
use native.Mathlib.Omega.{arith}
use borrow.Author.Tests.{lt-ltb, le-ltb}
use lib.Dec.{ltb, lit<}
use lib.ListN.{length, length-append}
use Rattle.io.specs.Digits.{hex_digit_ascii, last_digits, IsDigitCount}
use Rattle.render.specs.Line.{spelled, decimal_of}

pow_pos : (k : ℕ) → 0 < 10 ^ k
pow_pos zero = lit< tt
pow_pos (suc k) = rw (pow-suc 10 k) (omega (arith, pow_pos k))

ten : 0 < 10
ten = lit< tt

digit : (n : ℕ) → hex_digit_ascii (n % 10) ≡ 48 + n % 10
digit n = rw (lt-ltb _ _ (mod-lt n ten))

sub_one : (k : ℕ) → suc k - 1 ≡ k
sub_one k = omega arith

same_text : (f n k : ℕ) → n < 10 ^ suc f → IsDigitCount 10 1 n k → last_digits 10 k n ≡ spelled (suc f) n
unfolding spelled
same_text f n zero h w = absurd (omega (arith, w.0))
same_text f n (suc zero) h w = rw (lt-ltb n 10 w.1, digit, mod-eq_of_lt w.1)
same_text zero n (suc (suc j)) h w =
    let high : 10 ^ suc j ≤ n = simp sub_one at (w.2 (omega arith)) in
    absurd (omega (arith, pow-suc 10 j, pow_pos j))
same_text (suc f) n (suc (suc j)) h w =
    let high : 10 ^ suc j ≤ n = simp sub_one at (w.2 (omega arith)) in
    let big : 10 ≤ n = omega (arith, high, pow-suc 10 j, pow_pos j) in
    let rest = same_text f (n / 10) (suc j) ((div-lt_iff_lt-mul ten).1 (rw (pow-suc 10 (suc f)) at h))
    (omega arith, (div-lt_iff_lt-mul ten).1 (rw (pow-suc 10 (suc j)) at w.1), λ q. simp sub_one ((le-div_iff_mul-le ten).1 (rw (pow-suc 10 j) at high))) in
    rw (le-ltb n 10 big, digit n, rest)

pub decimal_text : (n k : ℕ) → n < 2 ^ 32 → IsDigitCount 10 1 n k → last_digits 10 k n ≡ decimal_of n
unfolding decimal_of
decimal_text n k h w = same_text 9 n k (omega arith) w

spelled_long : (f n : ℕ) → length (spelled f n) ≤ f
unfolding spelled
spelled_long zero n = omega arith
spelled_long (suc f) n = go (ltb n 10) (spelled_long f (n / 10))
  where
    go : (b : Bool) → length (spelled f (n / 10)) ≤ f → length (cond b ((48 + n) ∷ []) (spelled f (n / 10) ++ ((48 + n % 10) ∷ []))) ≤ suc f
    go true h = omega arith
    go false h = simp length-append (omega arith)

pub decimal_long : (n : ℕ) → length (decimal_of n) ≤ 10
unfolding decimal_of
decimal_long n = spelled_long 10 n

-- a text to which a number was written
pub ten_more : {text : List ℕ} (before : List ℕ) (n : ℕ) → text ≡ before ++ decimal_of n → length text ≤ length before + 10
ten_more before n h = rw h (simp length-append (omega (arith, decimal_long n)))
