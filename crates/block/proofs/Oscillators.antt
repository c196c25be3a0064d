-- What holds of a call of any oscillator, and of a chain of calls. Assumes nothing.
use Rattle.std.proofs.Common.{◌≡◌, ℕ, ◌+◌, ◌<◌, Bool, false, cond, eqb, ◌⊎◌, List, [], ◌∷◌, length, get_or, sym, refl, ap, ◌∙◌, subst, inl, inr, ⊎_elim, zero-le, zero-add, arith, leb-true}
use borrow.Author.Tests.{lt-leb}
use lib.Ieee.{Float}
use Rattle.floats.specs.F32.{zero32}
use Rattle.std.specs.Prelude.{None}
use Rattle.rooms.specs.Steps.{steps_of, first_outside}
use Rattle.block.specs.declared.Counts.{Counts}
use Rattle.block.specs.Counting.{no_counts, plus, total, late}
use Rattle.block.specs.Play.{play}
use Rattle.block.specs.Calls.{Call, refusal, done}
use Rattle.block.specs.Checks.{AllPass, here}
use Rattle.block.specs.Oscillator.{Oscillator, checks_of, call_of, steps_in, heard_of, counts_of, column, used_of, chain_of, Way, refused, drifted, answered}
use Rattle.block.specs.Limits.{EachLimited, Few, Balanced, NeitherFallsNorCuts, NoneLate}
use Rattle.block.specs.Account.{Accounted, Phases32}
use Rattle.block.specs.Fit.{Inside}
use Rattle.block.proofs.Plays.{few_none, few_most, late_fits}
use Rattle.block.proofs.Accounts.{Told, stood, told_accounted, told_join, steps_one, steps_accounted}
use Rattle.block.proofs.Ways.{not_done, refused_by, goes, way, by_ways}
use Rattle.block.proofs.Blocks.{Laws, play_total, play_every, Coming, block_limited, block_few, block_balanced, block_told}

module _ {S A : Type 0} (o : Oscillator S A) (s : S) (a : A) where
  -- answered, or a refusal: the state and the buffer as given, and nothing counted
  pub answered_or_as_given : ((call_of o s a).number ≡ 0) ⊎ (call_of o s a ≡ refusal (call_of o s a).number (call_of o s a).index s (o.buffer a))
  answered_or_as_given = go (way o s a)
    where
      go : {c : Call S} → Way o s a c → (c.number ≡ 0) ⊎ (c ≡ refusal c.number c.index s (o.buffer a))
      go (refused f) = inr refl
      go (drifted p h) = inr refl
      go (answered p h) = inl refl

  -- and so the state
  pub refused_state : ((call_of o s a).number ≡ 0 → ⊥) → (call_of o s a).state ≡ s
  refused_state n = ⊎_elim (λ (h : (call_of o s a).number ≡ 0). absurd (n h)) (λ (h : call_of o s a ≡ refusal (call_of o s a).number (call_of o s a).index s (o.buffer a)). ap (λ (c : Call S). c.state) h) answered_or_as_given

  pub long_refused : 4096 < length (o.buffer a) → call_of o s a ≡ refusal 1 0 s (o.buffer a)
  long_refused h = refused_by o s a (here (lt-leb _ _ h))

  -- an empty block that passes its checks
  pub empty_answered : o.buffer a ≡ [] → AllPass (checks_of o s a) → call_of o s a ≡ record { number = 0; index = 0; state = s; counts = no_counts; samples = [] }
  unfolding first_outside steps_of play
  empty_answered e p = let n : first_outside (o.rooms a) (steps_in o s a) ≡ None = rw e refl in goes o s a (answered p n) ∙ rw e refl

module _ {S A : Type 0} {o : Oscillator S A} {Valid : A → S → Type 0} {w e : ℕ} (l : Laws o Valid w e) where
  ways : (s : S) (a : A) (P : Call S → Type 0) → ((number index : ℕ) → eqb number 0 ≡ false → P (refusal number index s (o.buffer a)))
      → (AllPass (checks_of o s a) → first_outside (o.rooms a) (steps_in o s a) ≡ None → P (done (heard_of o s a))) → P (call_of o s a)
  ways s a = by_ways o s a (l.ordered s a)

  -- 0 is given only where every check passes and no step lies outside its room
  pub answered_fit : (s : S) (a : A) → (call_of o s a).number ≡ 0 → AllPass (checks_of o s a) × (first_outside (o.rooms a) (steps_in o s a) ≡ None)
  answered_fit s a =
      ways s a (λ (c : Call S). c.number ≡ 0 → AllPass (checks_of o s a) × (first_outside (o.rooms a) (steps_in o s a) ≡ None)) (λ number index h. not_done number h) (λ p h q. (p, h))

  -- an answered call is its samples, and its counts are theirs, added up
  pub answered_samples : (s : S) (a : A) → (call_of o s a).number ≡ 0 → call_of o s a ≡ done (heard_of o s a)
  answered_samples s a = ways s a (λ (c : Call S). c.number ≡ 0 → c ≡ done (heard_of o s a)) (λ number index h. not_done number h) (λ p h q. refl)

  pub answered_counts : (s : S) (a : A) → (call_of o s a).number ≡ 0 → (call_of o s a).counts ≡ total no_counts (counts_of o s a)
  answered_counts s a q = ap (λ (c : Call S). c.counts) (answered_samples s a q) ∙ play_total (o.sample a) (steps_in o s a) (o.buffer a) s no_counts

  module _ (s : S) (f : Phases32 o s) (a : A) where
    coming : AllPass (checks_of o s a) → first_outside (o.rooms a) (steps_in o s a) ≡ None → Coming l a (length (o.buffer a)) (o.moving s a) (o.buffer a) s
    coming p h = record { long = refl; paired = l.paired s a; inside = h; valid = l.passed s a f p.1 }

    pub answered_valid : (call_of o s a).number ≡ 0 → Valid a (call_of o s a).state
    answered_valid =
        ways s a (λ (c : Call S). c.number ≡ 0 → Valid a c.state) (λ number index h. not_done number h)
        (λ p h q. (block_told l a (length (o.buffer a)) (o.moving s a) (o.buffer a) s no_counts (coming p h)).valid)

    pub samples_limited : (call_of o s a).number ≡ 0 → EachLimited (counts_of o s a)
    samples_limited =
        ways s a (λ (c : Call S). c.number ≡ 0 → EachLimited (counts_of o s a)) (λ number index h. not_done number h)
        (λ p h q. block_limited l a (length (o.buffer a)) (o.moving s a) (o.buffer a) s (coming p h))

    pub call_few : Few (length (o.buffer a)) (call_of o s a).counts
    call_few =
        ways s a (λ (c : Call S). Few (length (o.buffer a)) c.counts) (λ number index h. few_most zero-le few_none)
        (λ p h.
        subst (λ (n : ℕ). Few n (heard_of o s a).counts) (zero-add (length (o.buffer a))) (block_few l a (length (o.buffer a)) 0 (o.moving s a) (o.buffer a) s no_counts (coming p h) few_none))

    -- so few that the fifth number is the sum of both
    pub late_whole : late (call_of o s a).counts ≡ (call_of o s a).counts.late_rises + (call_of o s a).counts.late_falls
    late_whole =
        ways s a (λ (c : Call S). Few (length (o.buffer a)) c.counts → late c.counts ≡ c.counts.late_rises + c.counts.late_falls) (λ number index h k. refl)
        (λ p h k. late_fits (omega (arith, leb-true (length (o.buffer a)) 4096 p.0)) k) call_few

    pub call_balanced : (high : S → Bool)
        → ((s : S) (steps : List Float) (x : Float) → Valid a s → Inside (o.rooms a) steps → Balanced (high s) (o.sample a s steps x).counts (high (o.sample a s steps x).state))
        → Balanced (high s) (call_of o s a).counts (high (call_of o s a).state)
    call_balanced high one =
        ways s a (λ (c : Call S). Balanced (high s) c.counts (high c.state)) (λ number index h. refl)
        (λ p h. block_balanced l a high one (length (o.buffer a)) (high s) (o.moving s a) (o.buffer a) s no_counts (coming p h) refl)

    -- what a call counts and uses, and that it leaves phases to go on from
    call_told : Told o.phase w e s (call_of o s a).state (call_of o s a).counts.cycles (used_of o s a)
    call_told =
        ways s a (λ (c : Call S). Told o.phase w e s c.state c.counts.cycles (cond (eqb c.number 0) (column o.phase_step (steps_in o s a)) [])) (λ number index h. rw h stood)
        (λ p h.
        let r = block_told l a (length (o.buffer a)) (o.moving s a) (o.buffer a) s no_counts (coming p h) in
        subst (λ (n : ℕ). Told o.phase w e s (heard_of o s a).state n (column o.phase_step (steps_in o s a))) (sym (r.counted ∙ zero-add r.cycles)) r.told)

    call_fits : Phases32 o (call_of o s a).state
    call_fits =
        ways s a (λ (c : Call S). Phases32 o c.state) (λ number index h. f)
        (λ p h. l.fits _ a (block_told l a (length (o.buffer a)) (o.moving s a) (o.buffer a) s no_counts (coming p h)).valid)

    pub call_accounted : Accounted w e (o.phase s) (call_of o s a).counts.cycles (o.phase (call_of o s a).state) (used_of o s a)
    call_accounted = told_accounted call_told

  chain_told : (s : S) → Phases32 o s → (calls : List A) → (let r = chain_of o s calls in Told o.phase w e s r.state r.cycles r.steps)
  unfolding chain_of
  chain_told s f [] = stood
  chain_told s f (a ∷ calls) = told_join (call_told s f a) (chain_told (call_of o s a).state (call_fits s f a) calls)

  pub chain_accounted : (s : S) → Phases32 o s → (calls : List A) → (let r = chain_of o s calls in Accounted w e (o.phase s) r.cycles (o.phase r.state) r.steps)
  chain_accounted s f calls = told_accounted (chain_told s f calls)

  -- one sample of a valid state, with steps in their rooms
  pub sample_accounted : (a : A) (s : S) (steps : List Float) (x : Float) → Valid a s → Inside (o.rooms a) steps
      → (let t = o.sample a s steps x in Accounted w e (o.phase s) t.counts.cycles (o.phase t.state) (get_or steps o.phase_step zero32 ∷ []))
  sample_accounted a s steps x v i = steps_accounted (steps_one (l.one a s steps x v i))

-- what holds of every sample's counts holds of every call's
module _ {S A : Type 0} (o : Oscillator S A) where
  call_every : (P : Counts → Type 0) → P no_counts → ((c d : Counts) → P c → P d → P (plus c d)) → ((a : A) (s : S) (steps : List Float) (x : Float) → P (o.sample a s steps x).counts)
      → (s : S) (a : A) → P (call_of o s a).counts
  call_every P none more one s a = go (way o s a)
    where
      go : {c : Call S} → Way o s a c → P c.counts
      go (refused f) = none
      go (drifted p h) = none
      go (answered p h) = play_every P more (o.sample a) (one a) (steps_in o s a) (o.buffer a) s no_counts none

  -- samples that never fall and are never cut
  pub call_neither : ((a : A) (s : S) (steps : List Float) (x : Float) → NeitherFallsNorCuts (o.sample a s steps x).counts) → (s : S) (a : A) → NeitherFallsNorCuts (call_of o s a).counts
  call_neither =
      call_every NeitherFallsNorCuts (record { falls = refl; cuts = refl })
      (λ c d h k. record { falls = omega (arith, h.falls, k.falls); cuts = omega (arith, h.cuts, k.cuts) })

  -- and that cross nothing late
  pub call_none_late : ((a : A) (s : S) (steps : List Float) (x : Float) → NoneLate (o.sample a s steps x).counts) → (s : S) (a : A) → NoneLate (call_of o s a).counts
  call_none_late =
      call_every NoneLate (record { rises = refl; falls = refl })
      (λ c d h k. record { rises = omega (arith, h.rises, k.rises); falls = omega (arith, h.falls, k.falls) })
