-- Interpolators of which every step lies in its room: the walk finds nothing. Assumes nothing.
use mathlib.Core.Path.{◌≡◌, refl, ap}
use mathlib.Core.Bool.{true}
use mathlib.Core.List.{List, [], ◌∷◌}
use Prim.Native.Nat.{ℕ, zero, suc, ◌≤◌, ◌<◌}
use native.Mathlib.Nat.{zero-lt-suc}
use native.Mathlib.Omega.{arith}
use lib.Ieee.{Float}
use Rattle.floats.specs.F32.{◌⊕◌}
use Rattle.parameter_interpolator.specs.declared.ParameterInterpolator.{ParameterInterpolator}
use Rattle.parameter_interpolator.specs.Interpolator.{next_interpolator}
use Rattle.parameter_interpolator.proofs.Glide.{step_of}
use Rattle.rooms.specs.declared.Room.{Room}
use Rattle.std.specs.Prelude.{None}
use Rattle.rooms.specs.Rooms.{in_room}
use Rattle.rooms.specs.Steps.{moved, values, steps_of, all_in, first_outside}

-- n steps in their room
abbrev pub StaysIn : ℕ → Room → ParameterInterpolator → Type 0
StaysIn n r p = (k : ℕ) → 0 < k → k ≤ n → in_room r (step_of k p) ≡ true

abbrev pub AllStayIn : ℕ → List Room → List ParameterInterpolator → Type 0
AllStayIn n [] ps = Unit {0}
AllStayIn n (r ∷ rs) [] = Unit {0}
AllStayIn n (r ∷ rs) (p ∷ ps) = StaysIn n r p × AllStayIn n rs ps

-- the steps of an interpolator that has taken one
step_later : (k : ℕ) (p : ParameterInterpolator) → step_of k (next_interpolator p) ≡ step_of (suc k) p
step_later zero p = refl
step_later (suc k) p = ap (λ (x : Float). x ⊕ p.increment) (step_later k p)

one_sample : (n : ℕ) (rs : List Room) (ps : List ParameterInterpolator) → AllStayIn (suc n) rs ps → (all_in rs (values (moved ps)) ≡ true) × AllStayIn n rs (moved ps)
unfolding all_in values moved
one_sample n [] ps h = (refl, tt)
one_sample n (r ∷ rs) [] h = (refl, tt)
one_sample n (r ∷ rs) (p ∷ ps) h =
    let l = one_sample n rs ps h.1 in
    (rw (h.0 1 (zero-lt-suc 0) (omega arith), l.0) refl, (λ k s m. rw (step_later k p) (h.0 (suc k) (zero-lt-suc k) (omega arith)), l.1))

pub nowhere : (n : ℕ) (rs : List Room) (ps : List ParameterInterpolator) → AllStayIn n rs ps → first_outside rs (steps_of n ps) ≡ None
unfolding first_outside steps_of
nowhere zero rs ps h = refl
nowhere (suc n) rs ps h = let l = one_sample n rs ps h in rw (l.0, nowhere n rs (moved ps) l.1) refl
