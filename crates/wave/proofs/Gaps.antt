-- How far two integers are apart, from natural numbers. Assumes nothing.
use mathlib.Core.Path.{◌≡◌, refl, sym, ap, ◌∙◌}
use mathlib.Core.Bool.{Bool, true, false, not, cond}
use Prim.Native.Nat.{ℕ, zero, suc, ◌+◌, ◌-◌, ◌≤◌, ◌<◌}
use native.Mathlib.Nat.{zero-mul}
use native.Mathlib.Omega.{arith}
use lib.Dec.{T, ltb, ltb→lt, nltb→le}
use lib.IntN.{ℤ, pos, negsuc, neg_ℤ, nat_abs, ◌-ℤ◌, ◌*ℤ◌, neg_ℤ-neg_ℤ, neg_ℤ-+ℤ}
use Rattle.wave.specs.Pcm.{one, off}

-- of two natural numbers one difference is 0
pub apart : (a b : ℕ) → nat_abs (pos a -ℤ pos b) ≡ (a - b) + (b - a)
apart a zero = omega arith
apart a (suc b) = go (ltb a (suc b)) (ltb→lt a (suc b)) (nltb→le a (suc b))
  where
    go : (t : Bool) → (T t → a < suc b) → (T (not t) → suc b ≤ a) → nat_abs (cond t (negsuc (suc b - suc a)) (pos (a - suc b))) ≡ (a - suc b) + (suc b - a)
    go true l m = omega (arith, l tt)
    go false l m = omega (arith, m tt)

pub apart_neg : (a b : ℕ) → nat_abs (neg_ℤ (pos a) -ℤ pos b) ≡ a + b
apart_neg zero b = omega (arith, apart 0 b)
apart_neg (suc a) zero = omega (arith, apart 0 (suc a))
apart_neg (suc a) (suc b) = omega arith

-- turned round
pub size_neg : (z : ℤ) → nat_abs (neg_ℤ z) ≡ nat_abs z
size_neg (pos zero) = refl
size_neg (pos (suc n)) = refl
size_neg (negsuc n) = refl

times_neg : (k : ℤ) (a : ℕ) → neg_ℤ k *ℤ pos a ≡ neg_ℤ (k *ℤ pos a)
times_neg (pos zero) a = rw (zero-mul a)
times_neg (pos (suc n)) a = refl
times_neg (negsuc n) a = sym (neg_ℤ-neg_ℤ _)

pub off_neg : (k z : ℤ) → off (neg_ℤ k) (neg_ℤ z) ≡ off k z
unfolding off
off_neg k z =
    rw (times_neg k one, times_neg z 32767) (ap nat_abs (sym (neg_ℤ-+ℤ (k *ℤ pos one) (neg_ℤ (z *ℤ pos 32767)))) ∙ size_neg (k *ℤ pos one -ℤ z *ℤ pos 32767))
