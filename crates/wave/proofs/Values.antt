-- The clipped value of a sample in units, and the number that it makes. Assumes nothing.
use mathlib.Core.Path.{◌≡◌, refl, sym, ap, subst, ◌∙◌}
use mathlib.Core.Bool.{true, false, true≢false}
use Prim.Native.Nat.{ℕ, suc, ◌*◌, ◌≤◌, min, zero-le}
use native.Mathlib.Nat.{le_refl, min-le_right}
use native.Mathlib.Omega.{arith}
use lib.Pow.{pow_pos}
use lib.IntN.{ℤ, pos, negsuc, nat_abs}
use lib.Ieee.{Float, nan, inf, fin, is_nan, of_bits}
use Rattle.floats.specs.F32.{f32}
use Rattle.floats.specs.Units.{units}
use Rattle.floats.proofs.At.{At, at_units}
use Rattle.wave.proofs.Rounded.{rounded_most}
use Rattle.wave.proofs.Gaps.{size_neg}
use Rattle.wave.specs.Pcm.{one, clipped, value_of, rounded, nearest_of, pcm_of}

-- a sample that is not negative, of n units
pub value_at : {x : Float} {n : ℕ} → At x n → value_of x ≡ pos (min n one)
unfolding value_of
value_at {x} {n} p = go x p
  where
    go : (x : Float) → At x n → value_of x ≡ pos (min n one)
    go nan p = absurd p.reads
    go (inf s) p = absurd p.reads
    go (fin s m e) p = ap clipped (at_units p)

-- up to 1, and from 1 on
pub pcm_at : {x : Float} {n : ℕ} → At x n → n ≤ one → pcm_of x ≡ pos (rounded (n * 32767) one)
unfolding pcm_of nearest_of
pcm_at {n = n} p h = ap nearest_of (value_at p) ∙ ap (λ (k : ℕ). pos (rounded (k * 32767) one)) (least n one h)
  where
    least : (n u : ℕ) → n ≤ u → min n u ≡ n
    least n u h = omega arith

pub pcm_over : {x : Float} {n : ℕ} → At x n → one ≤ n → pcm_of x ≡ pos 32767
unfolding pcm_of nearest_of rounded
pcm_over {n = n} p h = ap nearest_of (value_at p) ∙ ap (λ (k : ℕ). pos (rounded (k * 32767) one)) (least n one h)
  where
    least : (n u : ℕ) → u ≤ n → min n u ≡ u
    least n u h = omega arith

pub pcm_infinite : pcm_of (f32 0x7f80_0000) ≡ pos 32767
unfolding of_bits pcm_of nearest_of value_of rounded
pcm_infinite = refl

pub pcm_nan : (x : Float) → is_nan x ≡ true → pcm_of x ≡ pos 0
unfolding is_nan pcm_of nearest_of value_of rounded
pcm_nan nan h = refl
pcm_nan (inf s) h = absurd (true≢false (sym h))
pcm_nan (fin s m e) h = absurd (true≢false (sym h))

-- ---- of any sample
clipped_most : (z : ℤ) → nat_abs (clipped z) ≤ one
clipped_most (pos n) = min-le_right n one
clipped_most (negsuc n) = subst (λ (k : ℕ). k ≤ one) (sym (size_neg (pos (min (suc n) one)))) (min-le_right (suc n) one)

pub value_most : (x : Float) → nat_abs (value_of x) ≤ one
unfolding value_of
value_most nan = zero-le
value_most (inf true) = le_refl one
value_most (inf false) = le_refl one
value_most (fin s m e) = clipped_most (units (fin s m e))

most : (n : ℕ) → n ≤ one → rounded (n * 32767) one ≤ 32767
most n h = rounded_most (n * 32767) one 32767 (pow_pos 149) (scaled n one h)
  where
    scaled : (n u : ℕ) → n ≤ u → n * 32767 ≤ 32767 * u
    scaled n u h = omega arith

nearest_most : (z : ℤ) → nat_abs z ≤ one → nat_abs (nearest_of z) ≤ 32767
unfolding nearest_of
nearest_most (pos n) h = most n h
nearest_most (negsuc n) h = subst (λ (k : ℕ). k ≤ 32767) (sym (size_neg (pos (rounded (suc n * 32767) one)))) (most (suc n) h)

-- 16 bits hold every number
pub pcm_most : (x : Float) → nat_abs (pcm_of x) ≤ 32767
unfolding pcm_of
pcm_most x = nearest_most (value_of x) (value_most x)

-- ---- the ends
pub pcm_one : pcm_of (f32 0x3f80_0000) ≡ pos 32767
unfolding of_bits pcm_of nearest_of value_of rounded units
pcm_one = refl

pub pcm_minus_one : pcm_of (f32 0xbf80_0000) ≡ negsuc 32766
unfolding of_bits pcm_of nearest_of value_of rounded units
pcm_minus_one = refl
