-- From natural numbers to the integers that `units` gives: a bound on a difference. And an integer that is tested not to be negative. Assumes nothing.
use mathlib.Core.Path.{◌≡◌}
use Prim.Native.Nat.{ℕ, zero, suc, ◌≤◌, ◌<◌, ◌-◌}
use native.Mathlib.Omega.{arith}
use mathlib.Core.Bool.{Bool, true, false, true≢false, cond}
use lib.IntN.{ℤ, pos, negsuc, nat_abs, ◌-ℤ◌}
use lib.Signed.{lt_z, non_neg}
use lib.Dec.{T, ltb, ltb→lt}
use Rattle.floats.proofs.Rounding.{Within}

pub within→abs : (a b e : ℕ) → Within a b e → nat_abs (pos a -ℤ pos b) ≤ e
within→abs a zero e w = omega arith
within→abs a (suc b) e w = go (ltb a (suc b)) (ltb→lt a (suc b))
  where
    go : (t : Bool) → (T t → a < suc b) → nat_abs (cond t (negsuc (suc b - suc a)) (pos (a - suc b))) ≤ e
    go true l = omega (arith, l tt)
    go false l = omega arith

-- what a cast to an unsigned number asks, after the test `z < 0`
pub not_negative : (z : ℤ) → lt_z z (pos 0) ≡ false → T (non_neg z)
not_negative (pos n) h = tt
not_negative (negsuc n) h = absurd (true≢false h)
