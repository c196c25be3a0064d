-- The whole part of a float from 131,072 up, of one below 1 and of a NaN. Assumes nothing.
use mathlib.Core.Path.{◌≡◌, refl, sym, ap, ◌∙◌}
use mathlib.Core.Bool.{Bool, true, false, true≢false}
use Prim.Native.Nat.{ℕ, ◌+◌, ◌*◌, ◌/◌, ◌^◌, ◌≤◌, ◌<◌, min}
use native.Mathlib.Nat.{one-mul, mul-one, add-zero, le-div_iff_mul-le, div-eq_of_lt}
use native.Mathlib.Omega.{arith}
use borrow.Author.Tests.{leb-true, leb-false}
use lib.Dec.{leb}
use lib.IntN.{ℤ, pos}
use lib.Ieee.{Float, nan, inf, fin, up, down, le, of_bits, to_unsigned}
use lib.Ieee.Fits.{down_pos}
use Rattle.floats.specs.F32.{f32, one32}
use Rattle.floats.proofs.Values.{Split, Opened, lt_value, eq_value, le_of}
use Rattle.whole_part.specs.WholePart.{whole_part}

-- the test of a power of two against a value that is p - q, both in units of the value's last digit
le_power : (k m : ℕ) (e : ℤ) (s : Bool) (p q : ℕ) → Split s (m * up e) p q → le (fin false 1 (pos k)) (fin s m e) ≡ leb (2 ^ k * down e + q) (p + 0)
le_power k m e s p q split =
    le_of x y (w + q) (p + 0) (lt_value (down e) (down_pos e) x y w 0 p q X Y) (eq_value (down e) (down_pos e) x y w 0 p q X Y)
  where
    w : ℕ
    w = 2 ^ k * down e

    x : Float
    x = fin false 1 (pos k)

    y : Float
    y = fin s m e

    X : Opened (down e) false 1 (pos k) w 0
    X = record { n = w; size = ap (λ (i : ℕ). i * down e) (one-mul (2 ^ k)) ∙ sym (mul-one w); split = add-zero w }

    Y : Opened (down e) s m e p q
    Y = record { n = m * up e; size = refl; split = split }

capped : (n : ℕ) → 131072 ≤ n → 131072 ≡ min (min n 4294967295) 131072
capped n h = omega arith

pub above : (x : Float) → le (f32 0x4800_0000) x ≡ true → 131072 ≡ whole_part x
unfolding le of_bits to_unsigned
above nan h = absurd (true≢false (sym h))
above (inf true) h = absurd (true≢false (sym h))
above (inf false) h = refl
above (fin true m e) h =
    absurd (omega (arith, down_pos e, leb-true (131072 * down e + m * up e) (0 + 0) (sym (le_power 17 m e true 0 (m * up e) (add-zero (m * up e))) ∙ h)))
above (fin false m e) h =
    let least : 131072 * down e ≤ m * up e =
    omega (arith, leb-true (131072 * down e + 0) (m * up e + 0) (sym (le_power 17 m e false (m * up e) 0 (add-zero (m * up e))) ∙ h)) in
    capped (m * up e / down e) ((le-div_iff_mul-le (down_pos e)).1 least)

pub below : (x : Float) → le one32 x ≡ false → 0 ≡ whole_part x
unfolding le of_bits to_unsigned
below nan h = refl
below (inf true) h = refl
below (inf false) h = absurd (true≢false h)
below (fin true m e) h = refl
below (fin false m e) h =
    let less : m * up e < down e =
    omega (arith, leb-false (1 * down e + 0) (m * up e + 0) (sym (le_power 0 m e false (m * up e) 0 (add-zero (m * up e))) ∙ h)) in
    ap (λ (n : ℕ). min (min n 4294967295) 131072) (sym (div-eq_of_lt less))
