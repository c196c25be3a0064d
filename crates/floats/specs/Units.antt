-- The exact value of a float as a whole number of units, a unit being 2 ^ -149, binary32's smallest value. Assumes nothing.
use Rattle.std.specs.Prelude.{◌*◌, ◌/◌, ◌^◌, cond, ℤ, pos, neg_ℤ, Float}
use Rattle.std.specs.Float.{nan, inf, fin}
use Rattle.std.specs.Float.Ieee.{up, down}

-- `fin s m e` is m * 2 ^ e, negative where s is true, and 2 ^ e is up e / down e. The division is exact for what binary32 holds.
-- A NaN and an infinity, which have no such value, are 0.
unfoldable pub units : Float → ℤ
units nan = pos 0
units (inf s) = pos 0
units (fin s m e) = let n = m * up e * 2 ^ 149 / down e in cond s (neg_ℤ (pos n)) (pos n)
