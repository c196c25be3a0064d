-- The steps that interpolators give over a block, and the search for the first that lies outside its room. Assumes nothing.
use Rattle.std.specs.Prelude.{Bool, true, ◌&&◌, cond, List, [], ◌∷◌, ℕ, zero, suc, Float}
use Rattle.floats.specs.F32.{zero32}
use Rattle.parameter_interpolator.specs.declared.ParameterInterpolator.{ParameterInterpolator}
use Rattle.parameter_interpolator.specs.Interpolator.{next_interpolator}
use Rattle.rooms.specs.declared.Room.{Room}
use Rattle.std.specs.Prelude.{Option}
use Rattle.std.specs.Prelude.{Some, None}
use Rattle.rooms.specs.Rooms.{in_room}

-- a place that is not used stands still, at 0
abbrev pub still_one : ParameterInterpolator
still_one = record { value = zero32; increment = zero32 }

-- each interpolator one step on
unfoldable pub moved : List ParameterInterpolator → List ParameterInterpolator
moved [] = []
moved (p ∷ ps) = next_interpolator p ∷ moved ps

-- the value that each has reached
unfoldable pub values : List ParameterInterpolator → List Float
values [] = []
values (p ∷ ps) = p.value ∷ values ps

-- the steps of n samples: a sample's step of each interpolator is its value after one `next` more
unfoldable pub steps_of : ℕ → List ParameterInterpolator → List (List Float)
unfolding moved values
steps_of zero ps = []
steps_of (suc n) ps = values (moved ps) ∷ steps_of n (moved ps)

-- every step of a sample lies in its room: a room for each step, in the same order (no call has more of one than of the other, and what has no partner would not be tested)
unfoldable pub all_in : List Room → List Float → Bool
all_in [] steps = true
all_in (r ∷ rs) [] = true
all_in (r ∷ rs) (x ∷ steps) = in_room r x && all_in rs steps

-- the same, found one sample later
abbrev pub later : Option ℕ → Option ℕ
later None = None
later (Some i) = Some (suc i)

-- 01: "the first such sample's index", a sample of which any step lies outside
unfoldable pub first_outside : List Room → List (List Float) → Option ℕ
unfolding all_in
first_outside rs [] = None
first_outside rs (steps ∷ rest) = cond (all_in rs steps) (later (first_outside rs rest)) (Some 0)
