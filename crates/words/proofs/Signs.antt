-- A whole number as a 32-bit word. Assumes nothing.
use mathlib.Core.Path.{◌≡◌, refl}
use mathlib.Core.Bool.{Bool, true, false, cond}
use Prim.Native.Nat.{ℕ, ◌-◌}
use native.Mathlib.Omega.{arith}
use lib.IntN.{ℤ, pos, negsuc}
use lib.Dec.{ltb}
use mir.Syntax.{w32}
use mir.Val.{to_z, of_z, SFits}
use mir.Facts.{to_z-of_z}
use borrow.Author.Tests.{ltb-true, ltb-false}
use Rattle.words.specs.Face.{signed_of}

-- a word's number fits 32 bits, and so is kept where it is put into a state
pub signed_kept : (w : ℕ) (z : ℤ) → z ≡ signed_of w → to_z w32 (of_z w32 z) ≡ signed_of w
signed_kept w z e = rw e (to_z-of_z (go (ltb w 0x8000_0000) refl))
  where
    go : (b : Bool) → ltb w 0x8000_0000 ≡ b → SFits w32 (cond b (pos w) (negsuc (0xffff_ffff - w)))
    go true h = record { sfits = ltb-true _ _ h }
    go false h = record { sfits = omega (arith, ltb-false w 0x8000_0000 h) }
