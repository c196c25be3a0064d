-- A sample's number from the bits of the sample: its sign is apart from its size. Assumes nothing.
use mathlib.Core.Path.{◌≡◌, refl, sym, ap, ◌∙◌}
use mathlib.Core.Bool.{Bool, true, false, cond}
use Prim.Native.Nat.{ℕ, zero, suc, ◌+◌, ◌/◌, ◌%◌, ◌≤◌, ◌<◌, ◌-◌}
use native.Mathlib.Omega.{arith}
use borrow.Author.Tests.{le-leb, lt-leb}
use lib.Dec.{T, eqb}
use lib.IntN.{ℤ, pos, negsuc, neg_ℤ, nat_abs, ◌-ℤ◌, +ℤ_idl}
use mir.Val.{SFits}
use Rattle.std.specs.Int.{w16, cast_signed, cast_unsigned}
use Rattle.std.proofs.lemmas.Int.{to_z-of_z}
use lib.Ieee.{Float, nan, inf, binary32, neg, odd, of_fields, of_bits, to_bits, fits}
use lib.Ieee.Bits.{of_bits-to_bits}
use Rattle.floats.specs.F32.{f32}
use Rattle.wave.specs.Pcm.{pcm_of}
use Rattle.wave.proofs.Values.{pcm_most}
use Rattle.wave.proofs.Signs.{pcm_neg}

-- the sign's bit turns a value round
odd_neg : (q k l : ℕ) → odd 24 true q k l ≡ neg (odd 24 false q k l)
unfolding odd neg
odd_neg zero k l = refl
odd_neg (suc q) k l = refl

fields_neg : (x t : ℕ) → of_fields binary32 true x t ≡ neg (of_fields binary32 false x t)
unfolding of_fields neg
fields_neg zero t = odd_neg t 0 149
fields_neg (suc x) t = go (eqb (suc x) 255) (eqb t 0)
  where
    go : (a b : Bool) → cond a (cond b (inf true) nan) (odd 24 true (8388608 + t) x 149) ≡ neg (cond a (cond b (inf false) nan) (odd 24 false (8388608 + t) x 149))
    go true true = refl
    go true false = refl
    go false b = odd_neg (8388608 + t) x 149

bits_neg : (b : ℕ) → 2147483648 ≤ b → b < 4294967296 → f32 b ≡ neg (f32 (b - 2147483648))
unfolding of_bits
bits_neg b l h =
    let low : b % 2147483648 ≡ b - 2147483648 = omega arith in
    let rest : b % 8388608 ≡ (b - 2147483648) % 8388608 = omega arith in
    let same : (b - 2147483648) % 2147483648 ≡ b - 2147483648 = omega arith in
    rw (le-leb 2147483648 b l, lt-leb 2147483648 (b - 2147483648) (omega arith), low, rest, same) (fields_neg ((b - 2147483648) / 8388608) ((b - 2147483648) % 8388608))

-- ---- what 16 bits hold
holds : (z : ℤ) → nat_abs z ≤ 32767 → SFits w16 z
holds (pos n) h = record { sfits = omega arith }
holds (negsuc n) h = record { sfits = omega arith }

-- so a number is read back
pub read_back : (x : Float) (z : ℤ) → z ≡ pcm_of x → cast_signed w16 (cast_unsigned w16 z) ≡ z
read_back x z e = to_z-of_z w16 z (holds z (rw e (pcm_most x)))

-- and so it is where it was turned round
turned_size : (z : ℤ) → nat_abs (neg_ℤ z) ≡ nat_abs z
turned_size (pos zero) = refl
turned_size (pos (suc n)) = refl
turned_size (negsuc n) = refl

turned : (z : ℤ) → pos 0 -ℤ z ≡ neg_ℤ z
turned z = +ℤ_idl (neg_ℤ z)

-- as the code turns what it reads
pub minus_fits : (x : Float) (z : ℤ) → z ≡ pcm_of x → SFits w16 (pos 0 -ℤ cast_signed w16 (cast_unsigned w16 z))
minus_fits x z e = rw (read_back x z e, turned z) (holds (neg_ℤ z) (rw (turned_size z, e) (pcm_most x)))

module _ (x : Float) (fit : T (fits binary32 x)) (bits : ℕ) (is : bits ≡ to_bits binary32 x) (z : ℤ) where
  read : f32 bits ≡ x
  read = ap f32 is ∙ of_bits-to_bits binary32 x fit

  pub plus : z ≡ pcm_of (f32 bits) → cast_signed w16 (cast_unsigned w16 z) ≡ pcm_of x
  plus e = read_back (f32 bits) z e ∙ e ∙ ap pcm_of read

  pub minus : 2147483648 ≤ bits → bits < 4294967296 → z ≡ pcm_of (f32 (bits - 2147483648))
      → cast_signed w16 (cast_unsigned w16 (pos 0 -ℤ cast_signed w16 (cast_unsigned w16 z))) ≡ pcm_of x
  minus l h e =
      to_z-of_z w16 _ (minus_fits (f32 (bits - 2147483648)) z e) ∙ rw (read_back (f32 (bits - 2147483648)) z e) (turned z) ∙ ap neg_ℤ e ∙ sym (pcm_neg (f32 (bits - 2147483648)))
      ∙ ap pcm_of (sym (bits_neg bits l h) ∙ read)
