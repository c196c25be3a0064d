-- Which way a call of any oscillator goes: it is one of three, and each has its own condition. Assumes nothing.
use Rattle.std.proofs.Common.{◌≡◌, ℕ, ◌<◌, Bool, true, false, eqb, ◌⊎◌, List, [], ◌∷◌, ◌++◌, length, sym, refl, ap, ◌∙◌, subst, inl, inr, ⊎_elim, true≢false, arith, ne_eqb}
use lib.Ieee.{Float}
use Rattle.parameter_interpolator.specs.declared.ParameterInterpolator.{ParameterInterpolator}
use Rattle.std.specs.Prelude.{Option}
use Rattle.std.specs.Prelude.{Some, None}
use Rattle.rooms.specs.Steps.{first_outside}
use Rattle.rooms.proofs.Padding.{used, used_front}
use Rattle.block.specs.Calls.{Call, refusal, done, run}
use Rattle.block.specs.Checks.{Check, checked, InOrder, AllPass, FirstFailing, here, later}
use Rattle.block.specs.Oscillator.{Oscillator, checks_of, call_of, steps_in, heard_of, Way, refused, drifted, answered}
use Rattle.block.proofs.Runs.{run_drift, run_done}

-- ---- the checks
module _ {S : Type 0} (s : S) (xs : List Float) (c : Call S) where
  pub failing : {ks : List Check} {k : Check} → FirstFailing ks k → checked ks s xs c ≡ refusal k.number 0 s xs
  unfolding checked
  failing (here h) = rw h
  failing (later h f) = rw h (failing f)

  pub passing : (ks : List Check) → AllPass ks → checked ks s xs c ≡ c
  unfolding checked
  passing [] p = refl
  passing (k ∷ ks) p = rw p.0 (passing ks p.1)

pass_or_fail : (ks : List Check) → AllPass ks ⊎ ((k : Check) × FirstFailing ks k)
pass_or_fail [] = inl tt
pass_or_fail (j ∷ ks) = go j.passes refl (pass_or_fail ks)
  where
    go : (b : Bool) → j.passes ≡ b → AllPass ks ⊎ ((k : Check) × FirstFailing ks k) → AllPass (j ∷ ks) ⊎ ((k : Check) × FirstFailing (j ∷ ks) k)
    go true h (inl p) = inl (h, p)
    go true h (inr f) = inr (f.0, later h f.1)
    go false h r = inr (j, here h)

-- checks in order do not give 0
above : {n : ℕ} {ks : List Check} {k : Check} → InOrder n ks → FirstFailing ks k → n < k.number
above o (here h) = o.0
above o (later h f) = let l = above o.1 f in omega (arith, o.0)

not_zero : {ks : List Check} {k : Check} → InOrder 0 ks → FirstFailing ks k → eqb k.number 0 ≡ false
not_zero {k = k} o f = let l = above o f in ne_eqb k.number 0 (λ e. omega (arith, l, e))

-- a number that is not 0
pub not_done : {A : Type 0} (number : ℕ) → eqb number 0 ≡ false → number ≡ 0 → A
not_done number h e = absurd (true≢false (sym (ap (λ (k : ℕ). eqb k 0) e) ∙ h))

-- ---- the call
module _ {S A : Type 0} (o : Oscillator S A) (s : S) (a : A) where
  pub refused_by : {k : Check} → FirstFailing (checks_of o s a) k → call_of o s a ≡ refusal k.number 0 s (o.buffer a)
  unfolding call_of
  refused_by f = failing s (o.buffer a) (run (o.sample a) (o.rooms a) (o.moving s a) s (o.buffer a)) f

  pub runs : AllPass (checks_of o s a) → call_of o s a ≡ run (o.sample a) (o.rooms a) (o.moving s a) s (o.buffer a)
  unfolding call_of
  runs p = passing s (o.buffer a) (run (o.sample a) (o.rooms a) (o.moving s a) s (o.buffer a)) (checks_of o s a) p

  -- what follows once they have passed, where the places that have a room hold its interpolators
  pub run_from : length (o.moving s a) ≡ length (o.rooms a) → AllPass (checks_of o s a) → {ps : List ParameterInterpolator} (qs : List ParameterInterpolator) {c : Call S} → ps ≡ o.moving s a ++ qs
      → c ≡ run (o.sample a) (o.rooms a) (used (o.rooms a) ps) s (o.buffer a) → c ≡ call_of o s a
  run_from l p qs at e = e ∙ rw (at, used_front (o.rooms a) (o.moving s a) qs l) (sym (runs p))

  -- where its condition holds, the call goes this way
  pub goes : {c : Call S} → Way o s a c → call_of o s a ≡ c
  goes (refused f) = refused_by f
  goes (drifted {i} p h) = runs p ∙ run_drift (o.sample a) (o.rooms a) (o.moving s a) s (o.buffer a) i h
  goes (answered p h) = runs p ∙ run_done (o.sample a) (o.rooms a) (o.moving s a) s (o.buffer a) h

  -- and one of the conditions holds
  pub way : Way o s a (call_of o s a)
  way = ⊎_elim (λ (p : AllPass (checks_of o s a)). walked p (first_outside (o.rooms a) (steps_in o s a)) refl) (λ (f : (k : Check) × FirstFailing (checks_of o s a) k). this (refused f.1)) (pass_or_fail (checks_of o s a))
    where
      this : {c : Call S} → Way o s a c → Way o s a (call_of o s a)
      this w = subst (Way o s a) (sym (goes w)) w

      walked : AllPass (checks_of o s a) → (f : Option ℕ) → first_outside (o.rooms a) (steps_in o s a) ≡ f → Way o s a (call_of o s a)
      walked p (Some i) h = this (drifted p h)
      walked p None h = this (answered p h)

  -- what holds of each refusal, and of the samples where the call is answered, holds of the call
  pub by_ways : InOrder 0 (checks_of o s a) → (P : Call S → Type 0) → ((number index : ℕ) → eqb number 0 ≡ false → P (refusal number index s (o.buffer a)))
      → (AllPass (checks_of o s a) → first_outside (o.rooms a) (steps_in o s a) ≡ None → P (done (heard_of o s a))) → P (call_of o s a)
  by_ways n P not-answered samples = go way
    where
      go : {c : Call S} → Way o s a c → P c
      go (refused {k} f) = not-answered k.number 0 (not_zero n f)
      go (drifted {i} p h) = not-answered 6 i refl
      go (answered p h) = samples p h
