-- `stem::compose` meets its contract: the room that it lends is that of the longest stem. Assumes nothing.
use borrow.Author.Rules.{rules}
use mathlib.Core.List.{List}
use mathlib.Core.Path.{◌≡◌, ◌∙◌, subst}
use Prim.Native.Nat.{ℕ}
use Rattle.io.proofs.Counting.{prefix_len_of_le}
use Rattle.std.specs.Prelude.{Result}
use Rattle.stems.specs.declared.Refusal.{Refusal}
use Rattle.stems.specs.Compose.{handed_back}
use Rattle.stems.proofs.Whole.{Answered, always_room}
use Rattle.stem.proofs.compose.Goals as goal

-- what is known of the answer is known of it in each of its two forms
as_answered : {r q : Result ℕ Refusal} {input d : List ℕ} → r ≡ q → Answered input (handed_back r d) → Answered input (handed_back q d)
as_answered {input} {d} h = subst (λ (x : Result ℕ Refusal). Answered input (handed_back x d)) h

pub returns-in-Ok-clause-prefix_len : goal.returns-in-Ok-clause-prefix_len
returns-in-Ok-clause-prefix_len c = prefix_len_of_le _ _ (as_answered c.in-Ok.is (always_room _ _ _ _ c.compose.ensures (search rules))).inside

pub returns-in-Ok-clause-number_value : goal.returns-in-Ok-clause-number_value
returns-in-Ok-clause-number_value c = (as_answered c.in-Ok.is (always_room _ _ _ _ c.compose.ensures (search rules))).number_is

pub returns-in-Ok-clause-stem_after : goal.returns-in-Ok-clause-stem_after
returns-in-Ok-clause-stem_after c = (as_answered c.in-Ok.is (always_room _ _ _ _ c.compose.ensures (search rules))).stem_is

pub returns-in-Err-clause-number_value : goal.returns-in-Err-clause-number_value
returns-in-Err-clause-number_value c = c.number.ensures ∙ (as_answered c.in-Err.is (always_room _ _ _ _ c.compose.ensures (search rules))).number_is

pub returns-in-Err-clause-stem_after : goal.returns-in-Err-clause-stem_after
returns-in-Err-clause-stem_after c = (as_answered c.in-Err.is (always_room _ _ _ _ c.compose.ensures (search rules))).stem_is
