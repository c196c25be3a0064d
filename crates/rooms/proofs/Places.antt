-- The five interpolators one step on, place by place. Assumes nothing.
use mathlib.Core.Path.{◌≡◌, refl}
use mathlib.Core.List.{List, [], ◌∷◌}
use Prim.Native.Nat.{ℕ}
use native.Mathlib.Omega.{arith}
use lib.ListN.{length, get_or}
use lib.Ieee.{nan}
use Rattle.parameter_interpolator.specs.declared.ParameterInterpolator.{ParameterInterpolator}
use Rattle.parameter_interpolator.specs.Interpolator.{next_interpolator}
use Rattle.rooms.specs.Steps.{moved}

-- the interpolator at a place, as the code reads it; behind the last one there is none
abbrev pub place : List ParameterInterpolator → ℕ → ParameterInterpolator
place ps k = get_or ps k (record { value = nan; increment = nan })

pub moved_places : (ps : List ParameterInterpolator) → length ps ≡ 5
    → (next_interpolator (place ps 0) ∷ next_interpolator (place ps 1) ∷ next_interpolator (place ps 2) ∷ next_interpolator (place ps 3) ∷ next_interpolator (place ps 4) ∷ []) ≡ moved ps
unfolding moved
moved_places (p ∷ q ∷ r ∷ s ∷ t ∷ []) h = refl
moved_places [] h = absurd (omega arith)
moved_places (p ∷ []) h = absurd (omega arith)
moved_places (p ∷ q ∷ []) h = absurd (omega arith)
moved_places (p ∷ q ∷ r ∷ []) h = absurd (omega arith)
moved_places (p ∷ q ∷ r ∷ s ∷ []) h = absurd (omega arith)
moved_places (p ∷ q ∷ r ∷ s ∷ t ∷ u ∷ ps) h = absurd (omega arith)
