-- Demand 1: "Every call ends, for all bit patterns. An unfit call is refused by number, in a fixed order; the state comes back as given, counts are zero, no sample is touched.
-- A string pitch too high has a number of its own."
-- That a call ends, and that it is `call_of`, is the contract of each `render`, which asks nothing of its caller. Here: what `call_of` is. Assumes nothing.
use Rattle.std.specs.Prelude.{◌≡◌, ◌⊎◌, None, List, [], Float}
use Rattle.rooms.specs.Steps.{first_outside}
use Rattle.block.specs.Counting.{no_counts}
use Rattle.block.specs.Calls.{Call, refusal}
use Rattle.block.specs.Checks.{InOrder, AllPass}
use Rattle.block.specs.Oscillator.{Oscillator, checks_of, call_of, steps_in, Way}

-- answered, or refused and nothing changed
abbrev pub AnsweredOrAsGiven : {S : Type 0} → S → List Float → Call S → Type 0
AnsweredOrAsGiven s xs c = (c.number ≡ 0) ⊎ (c ≡ refusal c.number c.index s xs)

pub record Demand1 {S A : Type 0} (o : Oscillator S A) : Type 0 where
  pub in_order : (s : S) (a : A) → InOrder 0 (checks_of o s a)
  pub as_given : (s : S) (a : A) → AnsweredOrAsGiven s (o.buffer a) (call_of o s a)
  -- 01, "given exactly when": where the condition of a way holds the call goes that way, and whichever way it goes, its condition holds
  pub when : (s : S) (a : A) (c : Call S) → Way o s a c → call_of o s a ≡ c
  pub only_when : (s : S) (a : A) (c : Call S) → call_of o s a ≡ c → Way o s a c
  -- and 0, "nothing below applies"
  pub done_only_when : (s : S) (a : A) → (call_of o s a).number ≡ 0 → AllPass (checks_of o s a) × (first_outside (o.rooms a) (steps_in o s a) ≡ None)
  -- 01: "An empty block that passes is Done with nothing changed; it has no steps, so never Drift."
  pub empty_done : (s : S) (a : A) → o.buffer a ≡ [] → AllPass (checks_of o s a) → call_of o s a ≡ record { number = 0; index = 0; state = s; counts = no_counts; samples = [] }
