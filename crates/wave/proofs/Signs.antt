-- The number of a sample turned round is its number turned round. Assumes nothing.
use mathlib.Core.Path.{◌≡◌, refl, sym, ap, ◌∙◌}
use mathlib.Core.Bool.{Bool, true, false}
use Prim.Native.Nat.{ℕ, zero, suc}
use lib.IntN.{ℤ, pos, negsuc, neg_ℤ, neg_ℤ-neg_ℤ}
use lib.Ieee.{Float, nan, inf, fin, neg}
use Rattle.floats.specs.Units.{units}
use Rattle.wave.specs.Pcm.{clipped, value_of, rounded, nearest_of, pcm_of}

units_neg : (s : Bool) (m : ℕ) (e : ℤ) → units (neg (fin s m e)) ≡ neg_ℤ (units (fin s m e))
unfolding units neg
units_neg true m e = sym (neg_ℤ-neg_ℤ _)
units_neg false m e = refl

clipped_neg : (z : ℤ) → clipped (neg_ℤ z) ≡ neg_ℤ (clipped z)
clipped_neg (pos zero) = refl
clipped_neg (pos (suc n)) = refl
clipped_neg (negsuc n) = sym (neg_ℤ-neg_ℤ _)

nearest_neg : (z : ℤ) → nearest_of (neg_ℤ z) ≡ neg_ℤ (nearest_of z)
unfolding nearest_of rounded
nearest_neg (pos zero) = refl
nearest_neg (pos (suc n)) = refl
nearest_neg (negsuc n) = sym (neg_ℤ-neg_ℤ _)

value_neg : (x : Float) → value_of (neg x) ≡ neg_ℤ (value_of x)
unfolding value_of neg
value_neg nan = refl
value_neg (inf true) = refl
value_neg (inf false) = refl
value_neg (fin s m e) = ap clipped (units_neg s m e) ∙ clipped_neg (units (fin s m e))

-- 02 (ii)'s odd symmetry
pub pcm_neg : (x : Float) → pcm_of (neg x) ≡ neg_ℤ (pcm_of x)
unfolding pcm_of
pcm_neg x = ap nearest_of (value_neg x) ∙ nearest_neg (value_of x)
