-- A whole part beside the bits of an i32. Assumes nothing.
use mathlib.Core.Path.{◌≡◌, refl}
use Prim.Native.Nat.{ℕ, ◌≤◌}
use native.Mathlib.Omega.{arith}
use borrow.Author.Tests.{ne_eqb}
use mir.Syntax.{w32}
use mir.Val.{SFits, of_z}
use lib.Dec.{eqb}
use lib.IntN.{ℤ, pos, negsuc}
use Rattle.whole_part.specs.WholePart.{is_whole}

-- a machine holds a negative number as bits above those of every whole part
pub is_whole_lem : (whole : ℕ) (z : ℤ) → whole ≤ 131072 → SFits w32 z → eqb whole (of_z w32 z) ≡ is_whole whole z
is_whole_lem whole (pos n) h f = refl
is_whole_lem whole (negsuc n) h f = ne_eqb whole (of_z w32 (negsuc n)) (λ e. omega (arith, f.sfits))
