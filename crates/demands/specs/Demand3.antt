-- Demand 3: "Chain any answered blocks of one oscillator, each from the state left before, sync never switched and no phase set by hand: the cycles counted, plus the
-- last phase, less the first, differ from the exact sum of the frequency steps used by at most 2^-24 cycle per sample. No sample counts two cycles, two falls or three rises."
-- A chain is a list of calls with any arguments, refused and empty ones among them. `Accounted` reads each float as its exact value, in units of 2^-149. Assumes nothing.
use Rattle.std.specs.Prelude.{◌≡◌, Bool, List, ℕ}
use Rattle.block.specs.Counting.{no_counts, total}
use Rattle.block.specs.Oscillator.{Oscillator, call_of, counts_of, chain_of}
use Rattle.block.specs.Limits.{EachLimited, Balanced, NeitherFallsNorCuts}
use Rattle.block.specs.Account.{Accounted, Phases32}

-- a cycle is w units, and 2^-24 of it is e
pub record Demand3 {S A : Type 0} (o : Oscillator S A) (w e : ℕ) : Type 0 where
  pub chain : (s : S) → Phases32 o s → (calls : List A) → (let r = chain_of o s calls in Accounted w e (o.phase s) r.cycles (o.phase r.state) r.steps)
  -- of each sample of an answered call, whose counts add up to the call's
  pub limits : (s : S) → Phases32 o s → (a : A) → (call_of o s a).number ≡ 0 → EachLimited (counts_of o s a)
  pub sum : (s : S) (a : A) → (call_of o s a).number ≡ 0 → (call_of o s a).counts ≡ total no_counts (counts_of o s a)

-- 01, "The four counts": of every call, answered or refused. "Elsewhere rises - falls - cuts equals `high` after less `high` before"
abbrev pub Balance : {S A : Type 0} → Oscillator S A → (S → Bool) → Type 0
Balance {S} {A} o high = (s : S) → Phases32 o s → (a : A) → Balanced (high s) (call_of o s a).counts (high (call_of o s a).state)

-- "For NES and string .. falls and cuts are 0"
abbrev pub NoFallsNorCuts : {S A : Type 0} → Oscillator S A → Type 0
NoFallsNorCuts {S} {A} o = (s : S) (a : A) → NeitherFallsNorCuts (call_of o s a).counts
