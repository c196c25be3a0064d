-- The contracts of `set_master_phase` and `set_master_phase_in`, as the kit reads them, determine all: answer and state. Assumes nothing.
use borrow.Fn.Kinds.{ended_of}
use mathlib.Core.Path.{◌≡◌, refl, sym, ap, ◌∙◌}
use base.Logic.{emp}
use contract.Lifetimes.{Lfts}
use denote.Triple.Entry.{Args, Res}
use denote.Triple.Clauses.{AtExit}
use borrow.Fn.Claims.{AllOf}
use borrow.Fn.Read.{Read, reads, all_models, no_know}
use borrow.Fn.World.{World, Pr}
use Rattle.floats.specs.Tightness.{Determines}
use Rattle.floats.proofs.Tightness.{coincide}
use Rattle.block.proofs.Contracts.{same_answer}
use Rattle.std.specs.Prelude.{Result, Ok, Err}
use Rattle.block.specs.declared.refusal.Refusal.{Refusal}
use Rattle.variable_shape.specs.declared.State.{State}
use Rattle.variable_shape.specs.MasterPhase.{Setting, left, as_setting}
use Rattle.variable_shape.proofs.master_phase.set_master_phase
use Rattle.variable_shape.specs.contracts.master_phase.set_master_phase_in as lent

-- what is left, in 01's numbers, tells answer and state
same_state : {T : Type 0} (a b : Result T Refusal) (s t : State) → as_setting a s ≡ as_setting b t → s ≡ t
same_state a b s t e = ap (λ (c : Setting). c.state) e

same_told : (a b : Result (Unit {0}) Refusal) (s t : State) → as_setting a s ≡ as_setting b t → a ≡ b
same_told a b s t e = same_answer a b (ap (λ (c : Setting). c.number) e) (ap (λ (c : Setting). c.index) e)

-- an answer by value, from what it tells and the state that it leaves
told : Result State Refusal → Result (Unit {0}) Refusal
told (Ok t) = Ok tt
told (Err refusal) = Err refusal

given : Result (Unit {0}) Refusal → State → Result State Refusal
given (Ok done) t = Ok t
given (Err refusal) t = Err refusal

given_is : (s : State) (r : Result State Refusal) → given (told r) (left s r) ≡ r
unfolding given told
given_is s (Ok t) = refl
given_is s (Err refusal) = refl

told_setting : (s : State) (r : Result State Refusal) → as_setting (told r) (left s r) ≡ as_setting r (left s r)
unfolding told
told_setting s (Ok t) = refl
told_setting s (Err refusal) = refl

same_set : (s : State) (r q : Result State Refusal) → as_setting r (left s r) ≡ as_setting q (left s q) → r ≡ q
same_set s r q e =
    let f = told_setting s r ∙ e ∙ sym (told_setting s q) in
    sym (given_is s r) ∙ ap (λ (t : State). given (told r) t) (same_state _ _ _ _ f) ∙ ap (λ (a : Result (Unit {0}) Refusal). given a (left s q)) (same_told _ _ _ _ f) ∙ given_is s q

pub set_master_phase_tight : Determines (ended_of _ set_master_phase.Kinds.ps set_master_phase.Kinds.r) set_master_phase.Reads.Learnt
set_master_phase_tight κs a r q v w h k = (same_set _ r q (coincide h k), refl)

-- The lent form: its `ensures`, read by the kit's own rules.
module _ (κs : Lfts 1) (a : Args lent.signature κs) (r : Res lent.signature κs) (e : AtExit lent.ended κs) where
  abbrev clause : (w : World) → Pr w
  clause w = (lent.clauses w.𝓛 w.𝓜.mem w.𝓡.run κs a).ensures tt r e

  abbrev reading : Read (λ w. emp w.𝓤) no_know clause
  reading = all_models clause (λ w. search reads) (λ w. refl) (λ w. refl) (λ w. refl)

  abbrev LentLearnt : Type 0
  LentLearnt = AllOf reading.tells

pub set_master_phase_in_tight : Determines lent.ended LentLearnt
set_master_phase_in_tight κs a r q v w h k =
    let e = coincide h k in
    (same_told _ _ _ _ e, ap (λ (s : State). (s, (tt, tt))) (same_state r q _ _ e))
