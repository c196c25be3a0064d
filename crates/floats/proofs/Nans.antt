-- What std's `is_nan` and `abs` say, in the words of the definitions. Assumes nothing.
use Rattle.std.proofs.Common.{◌≡◌, refl, sym, ap, Bool, false, true, true≢false, subst}
use Rattle.std.specs.Float.{float_with_sign}
use lib.Dec.{T}
use lib.Ieee.{Float, nan, inf, fin, is_nan, ne}
use lib.Ieee.Compare.{differs_from_itself}
use Rattle.floats.specs.Helpers.{abs_of}

-- a NaN alone differs from itself
pub is_nan_ne : (x : Float) → is_nan x ≡ ne x x
unfolding is_nan ne
is_nan_ne nan = refl
is_nan_ne (inf true) = refl
is_nan_ne (inf false) = refl
is_nan_ne (fin s m e) = go (ne (fin s m e) (fin s m e)) (differs_from_itself (fin s m e))
  where
    go : (b : Bool) → (T b → fin s m e ≡ nan) → false ≡ b
    go true h = absurd (subst T (ap is_nan (sym (h tt))) tt)
    go false h = refl

-- and is the one value that is no number
pub nan_of : (x : Float) → is_nan x ≡ true → x ≡ nan
unfolding is_nan
nan_of nan h = refl
nan_of (inf s) h = absurd (true≢false (sym h))
nan_of (fin s m e) h = absurd (true≢false (sym h))

pub abs_is : (x : Float) → float_with_sign false x ≡ abs_of x
unfolding float_with_sign
abs_is nan = refl
abs_is (inf s) = refl
abs_is (fin s m e) = refl
