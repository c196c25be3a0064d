-- What binary32 holds: m * 2 ^ j units of 2 ^ -149, with an m of 24 digits. Assumes nothing.
use mathlib.Core.Path.{◌≡◌, sym, ap, ◌∙◌}
use Prim.Native.Nat.{ℕ, zero, suc, ◌+◌, ◌*◌, ◌%◌, ◌^◌, ◌≤◌, ◌<◌, ◌-◌}
use native.Mathlib.Nat.{le_of_suc-le-suc, lt_of_not-le, not-le_of_lt, zero-mul, mul-one, mul_assoc, mul-pos}
use mathlib.Core.Bool.{Bool, ◌&&◌}
use lib.IntN.{ℤ, pos, negsuc}
use lib.Dec.{T, ltb, leb, eqb, ltb→lt, leb→le}
use lib.Pow.{pow-add, pow_pos, pow-lt}
use lib.Ieee.{fin, binary32, up, down, fits}
use lib.Ieee.Digits.{back}
use lib.Ieee.Fits.{down_pos, and_l, and_r}

pub record Held (m : ℕ) (e : ℤ) : Type 0 where
  pub j : ℕ
  pub small : m < 2 ^ 24
  pub size : m * up e * 2 ^ 149 ≡ m * 2 ^ j * down e
  pub room : m * up e < 2 ^ 128 * down e

pow_le_inv : (i j : ℕ) → 2 ^ i ≤ 2 ^ j → i ≤ j
pow_le_inv i j h = le_of_suc-le-suc (lt_of_not-le (λ (g : suc j ≤ i). not-le_of_lt (pow-lt g) h))

-- 2 ^ e is a whole number of units where its denominator is 2 ^ 149 at most
shift : (m : ℕ) (e : ℤ) → down e ≤ 2 ^ 149 → (j : ℕ) × (m * up e * 2 ^ 149 ≡ m * 2 ^ j * down e)
shift m (pos k) h = (k + 149, mul_assoc m (2 ^ k) (2 ^ 149) ∙ ap (λ (z : ℕ). m * z) (sym (pow-add 2 k 149)) ∙ sym (mul-one (m * 2 ^ (k + 149))))
shift m (negsuc k) h =
    let l = 149 - suc k in (
      l,
      ap (λ (z : ℕ). z * 2 ^ 149) (mul-one m) ∙ ap (λ (z : ℕ). m * 2 ^ z) (sym (back 149 (suc k) (pow_le_inv (suc k) 149 h)))
          ∙ ap (λ (z : ℕ). m * z) (pow-add 2 l (suc k)) ∙ sym (mul_assoc m (2 ^ l) (2 ^ suc k)),
    )

pub held : (s : Bool) (m : ℕ) (e : ℤ) → T (fits binary32 (fin s m e)) → Held m e
unfolding fits
held s zero e t = record { j = 0; small = pow_pos 24; size = simp zero-mul; room = rw zero-mul (mul-pos (pow_pos 128) (down_pos e)) }
held s (suc m) e t =
    let a = eqb (suc m % 2) 1 in
    let b = ltb (suc m) (2 ^ 24) in
    let c = leb (down e) (2 ^ 149) in
    let d = ltb (suc m * up e) (2 ^ 128 * down e) in
    let abc = and_l (a && b && c) d t in
    let k = shift (suc m) e (leb→le (down e) (2 ^ 149) (and_r (a && b) c abc)) in
    record { j = k.0; small = ltb→lt (suc m) (2 ^ 24) (and_r a b (and_l (a && b) c abc)); size = k.1; room = ltb→lt (suc m * up e) (2 ^ 128 * down e) (and_r (a && b && c) d t) }
