-- An oscillator as a value, and what is said once of all of them: a call, the steps that it uses, a chain of calls, and which way a call goes. Assumes nothing.
use Rattle.std.specs.Prelude.{◌≡◌, ℕ, ◌+◌, cond, List, [], ◌∷◌, ◌++◌, length, ◌==◌, slice_index_or, Float}
use Rattle.floats.specs.F32.{zero32}
use Rattle.parameter_interpolator.specs.declared.ParameterInterpolator.{ParameterInterpolator}
use Rattle.rooms.specs.declared.Room.{Room}
use Rattle.std.specs.Prelude.{Some, None}
use Rattle.rooms.specs.Steps.{steps_of, first_outside}
use Rattle.block.specs.declared.Counts.{Counts}
use Rattle.block.specs.Counting.{no_counts}
use Rattle.block.specs.declared.sample.Sample.{Sample}
use Rattle.block.specs.Play.{Heard, play}
use Rattle.block.specs.Calls.{Call, refusal, done, run}
use Rattle.block.specs.Checks.{Check, length_check, checked, AllPass, FirstFailing}

-- S is its state, and A the arguments of a call
pub record Oscillator (S A : Type 0) : Type 0 where
  pub buffer : A → List Float
  -- 01's checks after that of the length, in their order
  pub checks : S → A → List Check
  -- the interpolators that the source steps, and the room of each
  pub moving : S → A → List ParameterInterpolator
  pub rooms : A → List Room
  -- one sample, from the state, its steps and what the buffer held
  pub sample : A → S → List Float → Float → Sample S
  -- a state's phases; the one "whose wraps are cycles", and which of a sample's steps moves it
  pub phases : S → List Float
  pub phase : S → Float
  pub phase_step : ℕ

-- ---- a call
abbrev pub checks_of : {S A : Type 0} → Oscillator S A → S → A → List Check
checks_of o s a = length_check (o.buffer a) ∷ o.checks s a

-- the checks, then the search for a step outside its room, and then the samples
unfoldable pub call_of : {S A : Type 0} → Oscillator S A → S → A → Call S
call_of o s a = checked (checks_of o s a) s (o.buffer a) (run (o.sample a) (o.rooms a) (o.moving s a) s (o.buffer a))

-- the steps of each of its samples, the samples, and their counts one by one
abbrev pub steps_in : {S A : Type 0} → Oscillator S A → S → A → List (List Float)
steps_in o s a = steps_of (length (o.buffer a)) (o.moving s a)

abbrev pub heard_of : {S A : Type 0} → Oscillator S A → S → A → Heard S
heard_of o s a = play (o.sample a) s no_counts (steps_in o s a) (o.buffer a)

unfoldable pub sample_counts : {S : Type 0} → (S → List Float → Float → Sample S) → S → List (List Float) → List Float → List Counts
sample_counts make s [] xs = []
sample_counts make s (steps ∷ rest) [] = []
sample_counts make s (steps ∷ rest) (x ∷ xs) = let t = make s steps x in t.counts ∷ sample_counts make t.state rest xs

abbrev pub counts_of : {S A : Type 0} → Oscillator S A → S → A → List Counts
counts_of o s a = sample_counts (o.sample a) s (steps_in o s a) (o.buffer a)

-- ---- which way a call goes: the first check that fails refuses it, else the first sample with a step outside its room, and else it is answered
pub data Way {S A : Type 0} (o : Oscillator S A) (s : S) (a : A) : Call S → Type 0 where
  refused : {k : Check} → FirstFailing (checks_of o s a) k → Way o s a (refusal k.number 0 s (o.buffer a))
  drifted : {i : ℕ} → AllPass (checks_of o s a) → first_outside (o.rooms a) (steps_in o s a) ≡ Some i → Way o s a (refusal 6 i s (o.buffer a))
  answered : AllPass (checks_of o s a) → first_outside (o.rooms a) (steps_in o s a) ≡ None → Way o s a (done (heard_of o s a))

-- ---- a chain of calls
-- the k-th parameter's steps
unfoldable pub column : ℕ → List (List Float) → List Float
column k [] = []
column k (steps ∷ rest) = slice_index_or steps k zero32 ∷ column k rest

-- the steps of its phase that a call used: none where it was refused
abbrev pub used_of : {S A : Type 0} → Oscillator S A → S → A → List Float
used_of o s a = cond ((call_of o s a).number == 0) (column o.phase_step (steps_in o s a)) []

-- what a chain leaves: the last state, the cycles of all its calls, and the steps that they used
pub record Chained (S : Type 0) : Type 0 where
  pub state : S
  pub cycles : ℕ
  pub steps : List Float

-- calls one after the other, each with its own arguments and from the state left before
unfoldable pub chain_of : {S A : Type 0} → Oscillator S A → S → List A → Chained S
chain_of o s [] = record { state = s; cycles = 0; steps = [] }
chain_of o s (a ∷ rest) =
    let c = call_of o s a in
    let r = chain_of o c.state rest in
    record { state = r.state; cycles = c.counts.cycles + r.cycles; steps = used_of o s a ++ r.steps }
