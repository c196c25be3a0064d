-- Laws of bools and of what a test picks. Those that Mathlib has (`and-true`, `and_assoc`, ..) are `mathlib.Core.Bool`'s. Assumes nothing.
use mathlib.Core.Path.{◌≡◌, refl, sym, subst}
use mathlib.Core.Bool.{Bool, true, false, ◌&&◌, cond, true≢false}
use lib.Dec.{T}

-- a test that passed, as a type
pub holds : {b : Bool} → b ≡ true → T b
holds e = subst T (sym e) tt

pub and_both : (p q : Bool) → (p && q) ≡ true → (p ≡ true) × (q ≡ true)
and_both true q h = (refl, h)
and_both false q h = absurd (true≢false (sym h))

-- two tests that say the same
pub same_bool : (b c : Bool) → (b ≡ true → c ≡ true) → (c ≡ true → b ≡ true) → b ≡ c
same_bool true c f g = sym (f refl)
same_bool false true f g = g refl
same_bool false false f g = refl

-- what holds of both holds of the one that a test picks
pub cond_both : {A : Type 0} (P : A → Type 0) (b : Bool) (x y : A) → P x → P y → P (cond b x y)
cond_both P true x y p q = p
cond_both P false x y p q = q
