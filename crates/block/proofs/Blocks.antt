-- The samples of an answered call, for any oscillator: what each of them keeps, and what they come to, from the laws that the oscillator hands in. Assumes nothing.
use Rattle.std.proofs.Common.{◌≡◌, ℕ, zero, suc, ◌+◌, ◌≤◌, Bool, List, [], ◌∷◌, length, get_or, sym, refl, ◌∙◌, subst, add-zero, add_assoc, arith}
use lib.Ieee.{Float}
use Rattle.floats.specs.F32.{zero32}
use Rattle.parameter_interpolator.specs.declared.ParameterInterpolator.{ParameterInterpolator}
use Rattle.std.specs.Prelude.{None}
use Rattle.rooms.specs.Steps.{moved, values, steps_of, first_outside}
use Rattle.rooms.proofs.Padding.{moved_length}
use Rattle.block.specs.declared.Counts.{Counts}
use Rattle.block.specs.Counting.{plus, total}
use Rattle.block.specs.declared.sample.Sample.{Sample}
use Rattle.block.specs.Play.{Heard, play}
use Rattle.block.specs.Checks.{InOrder, AllPass}
use Rattle.block.specs.Oscillator.{Oscillator, checks_of, sample_counts, column}
use Rattle.block.specs.Limits.{Limited, EachLimited, Few, Balanced}
use Rattle.block.specs.Account.{Phases32}
use Rattle.block.specs.Fit.{Inside}
use Rattle.block.proofs.Plays.{Keeps, few_more, nowhere_first}
use Rattle.block.proofs.Accounts.{OneSample, steps_one, Told, stood, went, told_join}

-- What an oscillator hands in. `Valid` is what the checks of a call make sure of and each of its samples keeps. A cycle is w units, and a sample's account may miss by e.
pub record Laws {S A : Type 0} (o : Oscillator S A) (Valid : A → S → Type 0) (w e : ℕ) : Type 0 where
  pub ordered : (s : S) (a : A) → InOrder 0 (checks_of o s a)
  pub paired : (s : S) (a : A) → length (o.moving s a) ≡ length (o.rooms a)
  pub passed : (s : S) (a : A) → Phases32 o s → AllPass (o.checks s a) → Valid a s
  pub fits : (s : S) (a : A) → Valid a s → Phases32 o s
  pub keeps : (a : A) → Keeps (o.sample a) (o.rooms a) (Valid a)
  pub one : (a : A) (s : S) (steps : List Float) (x : Float) → Valid a s → Inside (o.rooms a) steps
      → OneSample w e (o.phase s) (get_or steps o.phase_step zero32) (o.sample a s steps x).counts.cycles (o.phase (o.sample a s steps x).state)

-- a block's counts are those of its samples, added up
pub play_total : {S : Type 0} (make : S → List Float → Float → Sample S) (steps : List (List Float)) (xs : List Float) (s : S) (c : Counts)
    → (play make s c steps xs).counts ≡ total c (sample_counts make s steps xs)
unfolding play sample_counts total
play_total make [] xs s c = refl
play_total make (steps ∷ rest) [] s c = refl
play_total make (steps ∷ rest) (x ∷ xs) s c = let t = make s steps x in play_total make rest xs t.state (plus c t.counts)

-- what holds of every sample's counts, and of a sum where it holds of both, holds of the block's
pub play_every : {S : Type 0} (P : Counts → Type 0) → ((c d : Counts) → P c → P d → P (plus c d)) → (make : S → List Float → Float → Sample S)
    → ((s : S) (steps : List Float) (x : Float) → P (make s steps x).counts) → (steps : List (List Float)) (xs : List Float) (s : S) (c : Counts) → P c → P (play make s c steps xs).counts
unfolding play
play_every P more make one [] xs s c h = h
play_every P more make one (steps ∷ rest) [] s c h = h
play_every P more make one (steps ∷ rest) (x ∷ xs) s c h = let t = make s steps x in play_every P more make one rest xs t.state (plus c t.counts) (more c t.counts h (one s steps x))

limited : {c : Counts} → Few 1 c → Limited c
limited f = record { cycles = f.cycles; falls = f.falls; rises = f.rises }

-- the limits are on all crossings: late ones count among the two rises and the one fall
pub late_limited : (c : Counts) → Limited c → (c.falls + c.late_falls ≤ 1) × (c.rises + c.late_rises ≤ 2)
late_limited c l = (omega (arith, l.falls), omega (arith, l.rises))

module _ {S A : Type 0} {o : Oscillator S A} {Valid : A → S → Type 0} {w e : ℕ} (l : Laws o Valid w e) (a : A) where
  -- m samples are to come, from the state s, over xs
  pub record Coming (m : ℕ) (ps : List ParameterInterpolator) (xs : List Float) (s : S) : Type 0 where
    pub long : length xs ≡ m
    pub paired : length ps ≡ length (o.rooms a)
    pub inside : first_outside (o.rooms a) (steps_of m ps) ≡ None
    pub valid : Valid a s

  module _ {m : ℕ} {ps : List ParameterInterpolator} {x : Float} {xs : List Float} {s : S} (k : Coming (suc m) ps (x ∷ xs) s) where
    -- the first of them, and then the others
    first : Inside (o.rooms a) (values (moved ps))
    first = (nowhere_first (o.rooms a) m ps k.paired k.inside).0

    few : Few 1 (o.sample a s (values (moved ps)) x).counts
    few = (l.keeps a s (values (moved ps)) x k.valid first).few

    rest : Coming m (moved ps) xs (o.sample a s (values (moved ps)) x).state
    rest = record {
      long = omega (arith, k.long);
      paired = moved_length ps ∙ k.paired;
      inside = (nowhere_first (o.rooms a) m ps k.paired k.inside).1;
      valid = (l.keeps a s (values (moved ps)) x k.valid first).ok;
    }

  pub block_limited : (m : ℕ) (ps : List ParameterInterpolator) (xs : List Float) (s : S) → Coming m ps xs s → EachLimited (sample_counts (o.sample a) s (steps_of m ps) xs)
  unfolding sample_counts steps_of
  block_limited zero ps xs s k = tt
  block_limited (suc m) ps [] s k = absurd (omega (arith, k.long))
  block_limited (suc m) ps (x ∷ xs) s k = (limited (few k), block_limited m (moved ps) xs _ (rest k))

  -- m samples more than the i that c was counted in
  pub block_few : (m i : ℕ) (ps : List ParameterInterpolator) (xs : List Float) (s : S) (c : Counts) → Coming m ps xs s → Few i c → Few (i + m) (play (o.sample a) s c (steps_of m ps) xs).counts
  unfolding play steps_of
  block_few zero i ps xs s c k f = subst (λ (n : ℕ). Few n c) (omega arith) f
  block_few (suc m) i ps [] s c k f = absurd (omega (arith, k.long))
  block_few (suc m) i ps (x ∷ xs) s c k f =
      let n : i + 1 + m ≡ i + suc m = omega arith in
      let t = o.sample a s (values (moved ps)) x in
      subst (λ (n : ℕ). Few n (play (o.sample a) t.state (plus c t.counts) (steps_of m (moved ps)) xs).counts) n (block_few m (i + 1) (moved ps) xs _ _ (rest k) (few_more f (few k)))

  pub block_balanced : (high : S → Bool) → ((s : S) (steps : List Float) (x : Float) → Valid a s → Inside (o.rooms a) steps → Balanced (high s) (o.sample a s steps x).counts (high (o.sample a s steps x).state))
      → (m : ℕ) (before : Bool) (ps : List ParameterInterpolator) (xs : List Float) (s : S) (c : Counts) → Coming m ps xs s → Balanced before c (high s)
      → (let h = play (o.sample a) s c (steps_of m ps) xs in Balanced before h.counts (high h.state))
  unfolding play steps_of
  block_balanced high one zero before ps xs s c k b = b
  block_balanced high one (suc m) before ps [] s c k b = absurd (omega (arith, k.long))
  block_balanced high one (suc m) before ps (x ∷ xs) s c k b =
      block_balanced high one m before (moved ps) xs _ _ (rest k) (omega (arith, b, one s (values (moved ps)) x k.valid (first k)))

  -- what the samples leave, from the counts c on
  pub record BlockAccount (s : S) (c : Counts) (used : List Float) (h : Heard S) : Type 0 where
    pub valid : Valid a h.state
    pub cycles : ℕ
    pub counted : h.counts.cycles ≡ c.cycles + cycles
    pub told : Told o.phase w e s h.state cycles used

  pub block_told : (m : ℕ) (ps : List ParameterInterpolator) (xs : List Float) (s : S) (c : Counts) → Coming m ps xs s → BlockAccount s c (column o.phase_step (steps_of m ps)) (play (o.sample a) s c (steps_of m ps) xs)
  unfolding play steps_of column
  block_told zero ps xs s c k = record { valid = k.valid; cycles = 0; counted = sym (add-zero c.cycles); told = stood }
  block_told (suc m) ps [] s c k = absurd (omega (arith, k.long))
  block_told (suc m) ps (x ∷ xs) s c k =
      let t = o.sample a s (values (moved ps)) x in
      let r = block_told m (moved ps) xs t.state (plus c t.counts) (rest k) in
      record {
        valid = r.valid;
        cycles = t.counts.cycles + r.cycles;
        counted = r.counted ∙ add_assoc c.cycles t.counts.cycles r.cycles;
        told = told_join (went (steps_one (l.one a s (values (moved ps)) x k.valid (first k)))) r.told;
      }
