-- What the functions of an oscillator ask of each other and leave, whatever a valid state is for it. Of it the trait `Voice` alone cites `Inside`; a reader need not believe the rest.
-- Assumes nothing.
use Rattle.std.specs.Prelude.{◌≡◌, ◌≤◌, true, None, List, length, Float}
use Rattle.parameter_interpolator.specs.declared.ParameterInterpolator.{ParameterInterpolator}
use Rattle.rooms.specs.declared.Room.{Room}
use Rattle.rooms.specs.Steps.{steps_of, all_in, first_outside}
use Rattle.block.specs.Counting.{no_counts}
use Rattle.block.specs.declared.sample.Sample.{Sample}
use Rattle.block.specs.Play.{Heard, play}
use Rattle.block.specs.Account.{AllFit}

-- a call that passed its tests
pub record Fit {S : Type 0} (Valid : S → Type 0) (s : S) (xs : List Float) : Type 0 where
  pub short : length xs ≤ 4096
  pub valid : Valid s

-- and of which no step leaves its room
pub record Playable {S : Type 0} (Valid : S → Type 0) (rooms : List Room) (s : S) (ps : List ParameterInterpolator) (xs : List Float) : Type 0 where
  pub fit : Fit Valid s xs
  pub inside : first_outside rooms (steps_of (length xs) ps) ≡ None

-- what it then leaves: every sample
abbrev pub heard_from : {S : Type 0} → (S → List Float → Float → Sample S) → S → List ParameterInterpolator → List Float → Heard S
heard_from make s ps xs = play make s no_counts (steps_of (length xs) ps) xs

-- the steps of one sample, one for each room, lie in their rooms
pub record Inside (rs : List Room) (steps : List Float) : Type 0 where
  pub long : length steps ≡ length rs
  pub rooms : all_in rs steps ≡ true
  pub fit : AllFit steps
