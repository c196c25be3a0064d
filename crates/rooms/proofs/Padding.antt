-- There are five places of interpolators; an oscillator with fewer has places that it does not use, and they change nothing. Assumes nothing.
use mathlib.Core.Path.{◌≡◌, refl, sym, ap, ◌∙◌}
use mathlib.Core.Bool.{Bool, true, ◌&&◌}
use mathlib.Core.List.{List, [], ◌∷◌, ◌++◌}
use mathlib.Core.Logic.{◌⊎◌, inl, inr}
use Prim.Native.Nat.{ℕ, zero, suc, ◌+◌, ◌≤◌, ◌<◌, ◌-◌}
use native.Mathlib.Nat.{eq-or-lt_of_le}
use native.Mathlib.Omega.{arith}
use lib.ListN.{length, get_or, take, drop, take-append-drop, get_or-eq_default}
use lib.Seq.{length-take-le, take_at, drop-cons, get_or-drop}
use lib.Ieee.{Float}
use Rattle.floats.specs.F32.{zero32}
use Rattle.parameter_interpolator.specs.declared.ParameterInterpolator.{ParameterInterpolator}
use Rattle.rooms.specs.declared.Room.{Room}
use Rattle.rooms.specs.declared.Room.TheVariants.{Unused}
use Rattle.rooms.specs.Rooms.{in_room}
use Rattle.rooms.specs.Steps.{moved, values, steps_of, all_in, first_outside}
use Rattle.rooms.proofs.Places.{place}

-- k rooms that test nothing
abbrev pub unused : ℕ → List Room
unused zero = []
unused (suc k) = Unused ∷ unused k

-- from the k-th place on no room tests anything
pub record UnusedFrom (rs : List Room) (k : ℕ) : Type 0 where
  pub most : k ≤ length rs
  pub rest : (j : ℕ) → k ≤ j → get_or rs j Unused ≡ Unused

pub unused_end : (rs : List Room) {k : ℕ} → length rs ≡ k → UnusedFrom rs k
unused_end rs h = record { most = omega arith; rest = λ j l. get_or-eq_default rs Unused (omega arith) }

-- and none in the place before it
pub unused_before : {rs : List Room} {k : ℕ} (d : Room) → UnusedFrom rs k → 0 < k → get_or rs (k - 1) d ≡ Unused → UnusedFrom rs (k - 1)
unused_before {rs} {k} d u s e = record { most = omega (arith, u.most); rest = λ j l. go j (eq-or-lt_of_le l) }
  where
    here : k - 1 < length rs
    here = omega (arith, u.most)

    go : (j : ℕ) → (k - 1 ≡ j) ⊎ (k - 1 < j) → get_or rs j Unused ≡ Unused
    go j (inl i) = rw (← i) (cc (drop-cons rs (k - 1) d here, drop-cons rs (k - 1) Unused here))
    go j (inr i) = u.rest j (omega arith)

unused_all : (rs : List Room) → ((j : ℕ) → get_or rs j Unused ≡ Unused) → rs ≡ unused (length rs)
unused_all [] f = refl
unused_all (r ∷ rs) f = rw (f 0, ← unused_all rs (λ j. f (suc j)))

-- the places that have a room
unfoldable pub used : List Room → List ParameterInterpolator → List ParameterInterpolator
used rs ps = take (length rs) ps

unused_in : (k : ℕ) (xs : List Float) → all_in (unused k) xs ≡ true
unfolding all_in
unused_in zero xs = refl
unused_in (suc k) [] = refl
unused_in (suc k) (x ∷ xs) = unused_in k xs

pub moved_length : (ps : List ParameterInterpolator) → length (moved ps) ≡ length ps
unfolding moved
moved_length [] = refl
moved_length (p ∷ ps) = ap suc (moved_length ps)

pub values_length : (ps : List ParameterInterpolator) → length (values ps) ≡ length ps
unfolding values
values_length [] = refl
values_length (p ∷ ps) = ap suc (values_length ps)

-- the places that are used go on by themselves
pub moved_used : (rs : List Room) (ps : List ParameterInterpolator) → moved (used rs ps) ≡ used rs (moved ps)
unfolding used moved
moved_used [] ps = refl
moved_used (r ∷ rs) [] = refl
moved_used (r ∷ rs) (p ∷ ps) = rw (moved_used rs ps)

all_in_used : (rs : List Room) (k : ℕ) (ps : List ParameterInterpolator) → all_in (rs ++ unused k) (values ps) ≡ all_in rs (values (used rs ps))
unfolding used all_in values
all_in_used [] k ps = unused_in k _
all_in_used (r ∷ rs) k [] = refl
all_in_used (r ∷ rs) k (p ∷ ps) = ap (λ (b : Bool). in_room r p.value && b) (all_in_used rs k ps)

-- and what the walk finds, it finds there
pub walk_used : (n : ℕ) (rs : List Room) (k : ℕ) (ps : List ParameterInterpolator) → first_outside (rs ++ unused k) (steps_of n ps) ≡ first_outside rs (steps_of n (used rs ps))
unfolding first_outside steps_of
walk_used zero rs k ps = refl
walk_used (suc n) rs k ps = rw (moved_used rs ps, all_in_used rs k (moved ps), walk_used n rs k (moved ps))

-- so it is enough to look at the places before those that are unused
pub walk_front : (n : ℕ) {m : ℕ} {rs : List Room} (ps : List ParameterInterpolator) → UnusedFrom rs m → first_outside rs (steps_of n ps) ≡ first_outside (take m rs) (steps_of n (take m ps))
unfolding used
walk_front n {m} {rs} ps u =
    let rest : drop m rs ≡ unused (length (drop m rs)) = unused_all (drop m rs) (λ j. get_or-drop m rs j Unused ∙ u.rest (m + j) (omega arith)) in
    ap (λ (qs : List Room). first_outside qs (steps_of n ps)) (sym (take-append-drop m rs) ∙ ap (λ (qs : List Room). take m rs ++ qs) rest)
    ∙ walk_used n (take m rs) (length (drop m rs)) ps
    ∙ ap (λ (j : ℕ). first_outside (take m rs) (steps_of n (take j ps))) (length-take-le m rs u.most)

pub used_length : (rs : List Room) (ps : List ParameterInterpolator) → length rs ≤ length ps → length (used rs ps) ≡ length rs
unfolding used
used_length rs ps l = length-take-le (length rs) ps l

-- those that stand in front, a room for each
pub used_front : (rs : List Room) (ps qs : List ParameterInterpolator) → length ps ≡ length rs → used rs (ps ++ qs) ≡ ps
unfolding used
used_front rs ps qs l = take_at ps qs (length rs) l

-- the value at a place is the step at that place
pub value_used : (rs : List Room) (ps : List ParameterInterpolator) (k : ℕ) → k < length rs → length rs ≤ length ps → (place ps k).value ≡ get_or (values (used rs ps)) k zero32
unfolding used values
value_used [] ps k h l = absurd (omega arith)
value_used (r ∷ rs) [] k h l = absurd (omega arith)
value_used (r ∷ rs) (p ∷ ps) zero h l = refl
value_used (r ∷ rs) (p ∷ ps) (suc k) h l = value_used rs ps k (omega arith) (omega arith)
