-- What a call leaves, for any oscillator, in 01's numbers. Assumes nothing.
use Rattle.std.specs.Prelude.{ℕ, Option, Some, None, Result, Ok, Err, List, length, Float}
use Rattle.parameter_interpolator.specs.declared.ParameterInterpolator.{ParameterInterpolator}
use Rattle.block.specs.declared.refusal.Refusal.{Refusal}
use Rattle.block.specs.declared.Counts.{Counts}
use Rattle.rooms.specs.declared.Room.{Room}
use Rattle.block.specs.Answers.{number_of, index_of}
use Rattle.block.specs.Counting.{no_counts, as_heard}
use Rattle.rooms.specs.Steps.{steps_of, first_outside}
use Rattle.block.specs.declared.sample.Sample.{Sample}
use Rattle.block.specs.Play.{Heard, play}

-- the answer's number and index, the state, the counts, and the buffer
pub record Call (S : Type 0) : Type 0 where
  pub number : ℕ
  pub index : ℕ
  pub state : S
  pub counts : Counts
  pub samples : List Float

-- a call that is done gives its counts, and a refused one none
abbrev pub counted : Result Counts Refusal → Counts
counted (Ok counts) = counts
counted (Err refusal) = no_counts

-- what an oscillator's call gave, and left in the state and in the buffer, in 01's numbers
abbrev pub gave : {S : Type 0} → Result Counts Refusal → S → List Float → Call S
gave answer s xs = record { number = number_of answer; index = index_of answer; state = s; counts = counted answer; samples = xs }

-- a refusal gives the state back, counts nothing and touches no sample
abbrev pub refusal : {S : Type 0} → ℕ → ℕ → S → List Float → Call S
refusal number index s xs = record { number = number; index = index; state = s; counts = no_counts; samples = xs }

-- a call with every crossing counted as heard, late or not, as 01 did
abbrev pub call_as_heard : {S : Type 0} → Call S → Call S
call_as_heard c = record { number = c.number; index = c.index; state = c.state; counts = as_heard c.counts; samples = c.samples }

-- an answered call: Done, with what was heard
abbrev pub done : {S : Type 0} → Heard S → Call S
done h = record { number = 0; index = 0; state = h.state; counts = h.counts; samples = h.samples }

-- Drift where a step lies outside its room, else every sample
abbrev pub drift_or : {S : Type 0} → Option ℕ → S → List Float → Heard S → Call S
drift_or (Some i) s xs h = refusal 6 i s xs
drift_or None s xs h = done h

-- what follows once a call is fit: the steps that the interpolators give are searched, and then played
unfoldable pub run : {S : Type 0} → (S → List Float → Float → Sample S) → List Room → List ParameterInterpolator → S → List Float → Call S
run make rooms ps s xs =
    let steps = steps_of (length xs) ps in
    drift_or (first_outside rooms steps) s xs (play make s no_counts steps xs)
