-- A call from another language is the oscillator's own call, put into words. For any oscillator. Assumes nothing.
use Rattle.std.proofs.Common.{Some, None, Result}
use Rattle.std.specs.Result.{is_ok}
use Rattle.block.specs.declared.refusal.Refusal.{Refusal}
use Rattle.block.proofs.Contracts.{ok_is_done}
use Rattle.block.specs.Answers.{number_of}
use mathlib.Core.Path.{◌≡◌, refl, ap, ◌∙◌}
use mathlib.Core.Bool.{Bool, true, false, ◌&&◌, cond}
use mathlib.Core.Logic.{⊎_elim, inl, inr}
use mathlib.Core.List.{List, [], ◌∷◌}
use Prim.Native.Nat.{ℕ}
use lib.Dec.{leb, eqb}
use lib.ListN.{length, get_or}
use lib.Ieee.{Float}
use borrow.Author.Tests.{eqb-true}
use Rattle.block.specs.Calls.{Call, refusal}
use Rattle.block.specs.Checks.{Check, FirstFailing, here, later, ◌unless◌}
use Rattle.block.specs.Oscillator.{Oscillator, checks_of, call_of, Way, refused, drifted, answered}
use Rattle.block.proofs.Ways.{not_done, refused_by, goes, way}
use Rattle.block.proofs.Oscillators.{answered_or_as_given, empty_answered}
use Rattle.words.specs.Face.{Face, result_of, stores_of, face_of, refused_face, AnsweredOrKept, no_state}

-- what is stored where an answer is no refusal is what the definitions store for the number 0
pub stored_if : {T : Type 0} (a : Result T Refusal) {b : Bool} (after given : List ℕ) {kept : List ℕ} → b ≡ is_ok a → kept ≡ cond b after given → kept ≡ cond (eqb (number_of a) 0) after given
stored_if a after given e h = h ∙ rw (e, ok_is_done a)

-- words that were read are a state's, and theirs is the state that was read
pub read_is : {S : Type 0} (b : Bool) {s t : S} → Some t ≡ cond b None (Some s) → (b ≡ false) × (t ≡ s)
read_is true e = cc
read_is false e = (refl, cc)

-- c is what the oscillator's call left, d what its definition says, from the state that was read
pub face_is : {S : Type 0} (words_of : S → List ℕ) (given : List ℕ) {c d : Call S} {stored : Bool} {after kept result : List ℕ}
    → c ≡ d → stored ≡ stores_of c.number (length c.samples) → after ≡ words_of c.state → kept ≡ cond stored after given → result ≡ result_of c
    → record { answer = get_or result 0 0; words = kept; result = result; samples = c.samples } ≡ face_of words_of given d
unfolding face_of
face_is words_of given e at_stored at_after at-kept at-result = rw (at-kept, at_stored, at_after, at-result) (ap (face_of words_of given) e)

-- the answer that is returned is the result's first word, of words that are no state too
pub returned_first : {S : Type 0} (words_of : S → List ℕ) (bad : Bool) (given : List ℕ) (xs : List Float) (c : Call S)
    → (cond bad (no_state given xs) (face_of words_of given c)).answer ≡ get_or (cond bad (no_state given xs) (face_of words_of given c)).result 0 0
unfolding face_of
returned_first words_of true given xs c = refl
returned_first words_of false given xs c = refl

module _ {S A : Type 0} (o : Oscillator S A) (words_of : S → List ℕ) (w : List ℕ) (s : S) (a : A) where
  -- a call that a check refuses: the words and the samples stay
  pub refused_face_lem : {k : Check} → FirstFailing (checks_of o s a) k → eqb k.number 0 ≡ false → face_of words_of w (call_of o s a) ≡ refused_face k.number 0 w (o.buffer a)
  unfolding face_of
  refused_face_lem f h = rw (refused_by o s a f, h)

  -- a bad state, where the state's test is the first after that of the length
  pub bad_state_face : {b : Bool} {ks : List Check} → o.checks s a ≡ 3 unless b ∷ ks → b ≡ false → face_of words_of w (call_of o s a) ≡ no_state w (o.buffer a)
  bad_state_face {b} same bad = go (leb (length (o.buffer a)) 4096) refl
    where
      go : (short : Bool) → leb (length (o.buffer a)) 4096 ≡ short → face_of words_of w (call_of o s a) ≡ refused_face (cond short 3 1) 0 w (o.buffer a)
      go true h = refused_face_lem {k = 3 unless b} (later h (rw same (here bad))) refl
      go false h = refused_face_lem (here h) refl

  -- answered, or the words and the samples stay
  pub answered_or_kept : AnsweredOrKept w (o.buffer a) (face_of words_of w (call_of o s a))
  unfolding face_of
  answered_or_kept = go (eqb (call_of o s a).number 0) refl
    where
      go : (b : Bool) → eqb (call_of o s a).number 0 ≡ b → AnsweredOrKept w (o.buffer a) (face_of words_of w (call_of o s a))
      go true h = inl (eqb-true _ _ h)
      go false h =
          inr (⊎_elim (not_done _ h) (λ (e : call_of o s a ≡ refusal (call_of o s a).number (call_of o s a).index s (o.buffer a)). rw (e, h)) (answered_or_as_given o s a))

  -- an empty block leaves every word as it was, whatever the answer
  pub empty_face : o.buffer a ≡ [] → (face_of words_of w (call_of o s a)).words ≡ w
  unfolding face_of
  empty_face e = rw (none (way o s a)) (never (eqb (call_of o s a).number 0))
    where
      none : {c : Call S} → Way o s a c → (call_of o s a).samples ≡ []
      none (refused f) = rw (goes o s a (refused f)) e
      none (drifted p h) = rw (goes o s a (drifted p h)) e
      none (answered p h) = rw (empty_answered o s a e p)

      never : (b : Bool) → cond (b && false) (words_of (call_of o s a).state) w ≡ w
      never true = refl
      never false = refl

-- what two calls give and leave, part by part
pub same_face : {f g : Face} → f ≡ g → (f.answer ≡ g.answer) × (f.words ≡ g.words) × (f.result ≡ g.result) × (f.samples ≡ g.samples)
same_face e = (ap (λ (f : Face). f.answer) e, ap (λ (f : Face). f.words) e, ap (λ (f : Face). f.result) e, ap (λ (f : Face). f.samples) e)
