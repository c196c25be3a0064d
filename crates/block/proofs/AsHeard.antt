-- Samples that count the late crossings as heard, as 01 did, and else are the same: so are the blocks and the calls, for any oscillator. Assumes nothing.
use Rattle.std.proofs.Common.{◌≡◌, ℕ, ◌+◌, List, [], ◌∷◌, sym, refl, ap, ◌∙◌, arith}
use lib.Ieee.{Float}
use Rattle.block.specs.declared.Counts.{Counts}
use Rattle.block.specs.Counting.{no_counts, plus, all_rises, all_falls, as_heard}
use Rattle.block.specs.declared.sample.Sample.{Sample}
use Rattle.block.specs.Play.{Heard, play}
use Rattle.block.specs.Calls.{Call, call_as_heard}
use Rattle.block.specs.Oscillator.{Oscillator, call_of, steps_in, Way, refused, drifted, answered}
use Rattle.block.specs.Limits.{NoneLate}
use Rattle.block.proofs.Ways.{goes, way}

-- what one sample and a run of samples give, with the late ones added back
abbrev pub sample_as_heard : {S : Type 0} → Sample S → Sample S
sample_as_heard t = record { state = t.state; sample = t.sample; counts = as_heard t.counts }

abbrev pub block_as_heard : {S : Type 0} → Heard S → Heard S
block_as_heard h = record { state = h.state; samples = h.samples; counts = as_heard h.counts }

-- an oscillator with other samples, and all else the same
abbrev pub with_sample : {S A : Type 0} → Oscillator S A → (A → S → List Float → Float → Sample S) → Oscillator S A
with_sample o sample = record {
  buffer = o.buffer;
  checks = o.checks;
  moving = o.moving;
  rooms = o.rooms;
  sample = sample;
  phases = o.phases;
  phase = o.phase;
  phase_step = o.phase_step;
}

-- counts of which nothing is late
none_as_heard : (c : Counts) → NoneLate c → as_heard c ≡ c
none_as_heard c n =
    let r : all_rises c ≡ c.rises = omega (arith, n.rises) in
    let f : all_falls c ≡ c.falls = omega (arith, n.falls) in
    ap (λ (k : ℕ). counts k (all_falls c) 0 0) r
    ∙ ap (λ (k : ℕ). counts c.rises k 0 0) f
    ∙ ap (λ (k : ℕ). counts c.rises c.falls k 0) (sym n.rises)
    ∙ ap (counts c.rises c.falls c.late_rises) (sym n.falls)
  where
    counts : ℕ → ℕ → ℕ → ℕ → Counts
    counts rises falls lateRises lateFalls = record { cycles = c.cycles; rises = rises; falls = falls; cuts = c.cuts; late_rises = lateRises; late_falls = lateFalls }

plus_as_heard : (c d : Counts) → plus (as_heard c) (as_heard d) ≡ as_heard (plus c d)
plus_as_heard c d =
    let r : all_rises c + all_rises d ≡ all_rises (plus c d) = omega arith in
    let f : all_falls c + all_falls d ≡ all_falls (plus c d) = omega arith in
    ap (λ (k : ℕ). counts k (all_falls c + all_falls d)) r ∙ ap (counts (all_rises (plus c d))) f
  where
    counts : ℕ → ℕ → Counts
    counts rises falls = record { cycles = c.cycles + d.cycles; rises = rises; falls = falls; cuts = c.cuts + d.cuts; late_rises = 0; late_falls = 0 }

module _ {S : Type 0} (make old : S → List Float → Float → Sample S) (same : (s : S) (steps : List Float) (x : Float) → old s steps x ≡ sample_as_heard (make s steps x)) where
  play_as_heard : (steps : List (List Float)) (xs : List Float) (s : S) (c : Counts) → play old s (as_heard c) steps xs ≡ block_as_heard (play make s c steps xs)
  unfolding play
  play_as_heard [] xs s c = refl
  play_as_heard (steps ∷ rest) [] s c = refl
  play_as_heard (steps ∷ rest) (x ∷ xs) s c =
      let t = make s steps x in
      rw (same s steps x, plus_as_heard c t.counts, play_as_heard rest xs t.state (plus c t.counts))

module _ {S A : Type 0} (o : Oscillator S A) (old : A → S → List Float → Float → Sample S)
    (same : (a : A) (s : S) (steps : List Float) (x : Float) → old a s steps x ≡ sample_as_heard (o.sample a s steps x)) where
  pub call_as_heard_lem : (s : S) (a : A) → call_of (with_sample o old) s a ≡ call_as_heard (call_of o s a)
  call_as_heard_lem s a = go (way o s a)
    where
      go : {c : Call S} → Way o s a c → call_of (with_sample o old) s a ≡ call_as_heard c
      go (refused f) = goes (with_sample o old) s a (refused f)
      go (drifted p h) = goes (with_sample o old) s a (drifted p h)
      go (answered p h) = goes (with_sample o old) s a (answered p h) ∙ rw (play_as_heard (o.sample a) (old a) (same a) (steps_in o s a) (o.buffer a) s no_counts)

  -- and where nothing is late, nothing has changed
  pub call_unchanged : ((s : S) (a : A) → NoneLate (call_of o s a).counts) → (s : S) (a : A) → call_of (with_sample o old) s a ≡ call_of o s a
  call_unchanged none s a =
      let c = call_of o s a in
      call_as_heard_lem s a
      ∙ ap (λ (k : Counts). record { number = c.number; index = c.index; state = c.state; counts = k; samples = c.samples }) (none_as_heard c.counts (none s a))
