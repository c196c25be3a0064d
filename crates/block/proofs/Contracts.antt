-- An answer is fixed by its number, its index and its counts, and so what a call gave by its definition. Assumes nothing.
use Rattle.std.proofs.Common.{◌≡◌, ℕ, cond, eqb, List, Result, Ok, Err, sym, refl, ap, ◌∙◌}
use lib.Ieee.{Float}
use Rattle.std.specs.Result.{is_ok}
use Rattle.block.specs.declared.refusal.Refusal.{Refusal}
use Rattle.block.specs.declared.refusal.Refusal.TheVariants.{LongBlock, BadRegistration, BadState, BadParam, TooHigh, Drift, BadRecord, BadInput, NoRoom}
use Rattle.block.specs.declared.Counts.{Counts}
use Rattle.block.specs.Answers.{number_of, index_of}
use Rattle.block.specs.Calls.{Call, counted, gave}

module _ {T : Type 0} where
  -- the answer with this number and index, and of a call that is done what it gave
  answer_of : ℕ → ℕ → T → Result T Refusal
  answer_of n i x =
      cond (eqb n 0) (Ok x)
      (cond (eqb n 1) (Err LongBlock)
      (cond (eqb n 2) (Err BadRegistration)
      (cond (eqb n 3) (Err BadState)
      (cond (eqb n 4) (Err BadParam)
      (cond (eqb n 5) (Err TooHigh)
      (cond (eqb n 6) (Err (Drift i))
      (cond (eqb n 7) (Err BadRecord)
      (cond (eqb n 8) (Err BadInput)
      (Err NoRoom)))))))))

  -- which it is where x is what it gave
  abbrev Gives : Result T Refusal → T → Type 0
  Gives (Ok y) x = x ≡ y
  Gives (Err e) x = Unit {0}

  answer_is : (a : Result T Refusal) (x : T) → Gives a x → answer_of (number_of a) (index_of a) x ≡ a
  unfolding answer_of
  answer_is (Ok y) x g = ap Ok g
  answer_is (Err LongBlock) x g = refl
  answer_is (Err BadRegistration) x g = refl
  answer_is (Err BadState) x g = refl
  answer_is (Err BadParam) x g = refl
  answer_is (Err TooHigh) x g = refl
  answer_is (Err (Drift i)) x g = refl
  answer_is (Err BadRecord) x g = refl
  answer_is (Err BadInput) x g = refl
  answer_is (Err NoRoom) x g = refl

  same_by : (a b : Result T Refusal) (x y : T) → Gives a x → Gives b y → number_of a ≡ number_of b → index_of a ≡ index_of b → x ≡ y → a ≡ b
  same_by a b x y g h p q e =
      sym (answer_is a x g) ∙ ap (λ (n : ℕ). answer_of n (index_of a) x) p ∙ ap (λ (i : ℕ). answer_of (number_of b) i x) q ∙ ap (answer_of (number_of b) (index_of b)) e ∙ answer_is b y h

-- an answer that gives nothing beside its number and index
gives_none : (a : Result (Unit {0}) Refusal) → Gives a tt
gives_none (Ok tt) = refl
gives_none (Err e) = tt

pub same_answer : (a b : Result (Unit {0}) Refusal) → number_of a ≡ number_of b → index_of a ≡ index_of b → a ≡ b
same_answer a b p q = same_by a b tt tt (gives_none a) (gives_none b) p q refl

-- and one that gives its counts
gives_counts : (a : Result Counts Refusal) → Gives a (counted a)
gives_counts (Ok c) = refl
gives_counts (Err e) = tt

-- two calls of any oscillator that the same definition says: answer with its counts, state and buffer are the same
pub same_outcome : {S : Type 0} (a b : Result Counts Refusal) (s t : S) (xs ys : List Float) → gave a s xs ≡ gave b t ys → (a ≡ b) × (s ≡ t) × (xs ≡ ys)
same_outcome {S} a b s t xs ys e = (
  same_by a b (counted a) (counted b) (gives_counts a) (gives_counts b) (ap (λ (k : Call S). k.number) e) (ap (λ (k : Call S). k.index) e) (ap (λ (k : Call S). k.counts) e),
  ap (λ (k : Call S). k.state) e,
  ap (λ (k : Call S). k.samples) e,
)

-- an answer without a refusal has the number 0, and no other has
pub ok_is_done : {T : Type 0} (a : Result T Refusal) → is_ok a ≡ eqb (number_of a) 0
ok_is_done (Ok x) = refl
ok_is_done (Err LongBlock) = refl
ok_is_done (Err BadRegistration) = refl
ok_is_done (Err BadState) = refl
ok_is_done (Err BadParam) = refl
ok_is_done (Err TooHigh) = refl
ok_is_done (Err (Drift i)) = refl
ok_is_done (Err BadRecord) = refl
ok_is_done (Err BadInput) = refl
ok_is_done (Err NoRoom) = refl
