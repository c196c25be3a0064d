-- `floats::from_bits` meets its contract: the patterns above an infinity's are the NaN's, and every one of those is `nan`. Assumes nothing.
use mathlib.Core.Path.{◌≡◌, refl, sym, ◌∙◌, subst}
use mathlib.Core.Bool.{true, not}
use Prim.Native.Nat.{ℕ, ◌%◌, ◌≤◌, ◌<◌}
use native.Mathlib.Omega.{arith}
use lib.Dec.{T}
use lib.Ieee.{Float, nan, inf, fin, is_nan, nan_bits, binary32, of_bits, div}
use lib.Ieee.Bits.{nan_bits_is, nan_bits_above}
use borrow.Author.Tests.{lt-ltb, le-ltb}
use Rattle.floats.proofs.from_bits.Goals as goal

is_nan_lem : (x : Float) → is_nan x ≡ true → nan ≡ x
unfolding is_nan
is_nan_lem nan h = refl
is_nan_lem (inf s) h = absurd (subst T (sym h) tt)
is_nan_lem (fin s m e) h = absurd (subst T (sym h) tt)

a_number : (bits : ℕ) → bits % 0x8000_0000 ≤ 0x7f80_0000 → T (not (nan_bits binary32 bits))
a_number bits h = rw (nan_bits_above, le-ltb _ _ h) tt

a_nan : (bits : ℕ) → 0x7f80_0000 < bits % 0x8000_0000 → nan ≡ of_bits binary32 bits
a_nan bits h = is_nan_lem _ (sym (nan_bits_is binary32 bits) ∙ nan_bits_above binary32 bits ∙ lt-ltb _ _ h)

pub float_from_bits-result : goal.float_from_bits-result
float_from_bits-result c = a_number _ (omega (arith, c.if-bits-gt2139095040.false))

pub returns-then-bits-gt2139095040 : goal.returns-then-bits-gt2139095040
unfolding of_bits div
returns-then-bits-gt2139095040 c = a_nan c.args.bits (omega (arith, c.if-bits-gt2139095040.true))
