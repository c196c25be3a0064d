-- What is true of every job list: a line depends only on the records up to its own, a refused record could be left out, and the lines are
-- as many as the records. Assumes nothing.
use mathlib.Core.Path.{◌≡◌, refl, sym, ◌∙◌, ap}
use mathlib.Core.Bool.{Bool, true, false, cond}
use mathlib.Core.List.{List, [], ◌∷◌, ◌++◌}
use Prim.Native.Nat.{ℕ, zero, suc, ◌+◌, ◌/◌, ◌%◌}
use native.Mathlib.Omega.{arith}
use borrow.Author.Tests.{ne_eqb}
use lib.Dec.{eqb, ltb}
use lib.ListN.{length, take}
use Rattle.block.specs.Counting.{one_if, told}
use Rattle.bank.specs.declared.Bank.{Bank}
use Rattle.render.specs.Line.{spelled, decimal_of, number_then, line_of, record_line}
use Rattle.bank.specs.Bank.{Outcome, init_bank, record_played}
use Rattle.render.specs.Lists.{records_from, run_of, numbered, lines_of, bank_after, new_lines}
use Rattle.bank.proofs.Refused.{record_kept}

-- what the first k lines say is what they say for the first k records alone
pub up_to : (b : Bank) (k : ℕ) (records : List (List ℕ)) → take k (run_of b records) ≡ run_of b (take k records)
unfolding run_of
up_to b zero records = refl
up_to b (suc k) [] = refl
up_to b (suc k) (p ∷ rest) = ap (λ (l : List Outcome). (record_played b p).outcome ∷ l) (up_to (record_played b p).bank k rest)

-- so two lists that agree on their first k records agree on what their first k lines say
pub only_before : (b : Bank) (k : ℕ) (records others : List (List ℕ)) → take k records ≡ take k others → take k (run_of b records) ≡ take k (run_of b others)
only_before b k records others h = up_to b k records ∙ ap (run_of b) h ∙ sym (up_to b k others)

pub one_after_another : (b : Bank) (records others : List (List ℕ)) → run_of b (records ++ others) ≡ run_of b records ++ run_of (bank_after b records) others
unfolding run_of bank_after
one_after_another b [] others = refl
one_after_another b (p ∷ rest) others = ap (λ (l : List Outcome). (record_played b p).outcome ∷ l) (one_after_another (record_played b p).bank rest others)

-- a record p that is refused where it stands: with it and without it, what all other lines say is the same
pub left_out : (b : Bank) (before : List (List ℕ)) (p : List ℕ) (after : List (List ℕ)) → ((record_played (bank_after b before) p).outcome.answer ≡ 0 → ⊥)
    → (run_of b (before ++ (p ∷ after)) ≡ run_of b before ++ ((record_played (bank_after b before) p).outcome ∷ run_of (bank_after b before) after))
    × (run_of b (before ++ after) ≡ run_of b before ++ run_of (bank_after b before) after)
unfolding run_of
left_out b before p after h = (
  one_after_another b before (p ∷ after) ∙ ap (λ (q : Bank). run_of b before ++ ((record_played (bank_after b before) p).outcome ∷ run_of q after)) (record_kept (bank_after b before) p h),
  one_after_another b before after,
)

-- a line for each record
pub as_many : (b : Bank) (records : List (List ℕ)) → length (run_of b records) ≡ length records
unfolding run_of
as_many b [] = refl
as_many b (p ∷ rest) = ap suc (as_many (record_played b p).bank rest)

pub how_many : (list : List ℕ) (k n : ℕ) → length (records_from list k n) ≡ n
unfolding records_from
how_many list k zero = refl
how_many list k (suc n) = ap suc (how_many list (suc k) n)

-- ---- the lines of the text itself
new_lines_both : (xs ys : List ℕ) → new_lines (xs ++ ys) ≡ new_lines xs + new_lines ys
new_lines_both [] ys = omega arith
new_lines_both (x ∷ xs) ys = omega (arith, new_lines_both xs ys)

none_in_digits : (f n : ℕ) → new_lines (spelled f n) ≡ 0
unfolding spelled
none_in_digits zero n = refl
none_in_digits (suc f) n = go (ltb n 10) (none_in_digits f (n / 10))
  where
    digit : (d : ℕ) → new_lines ((48 + d) ∷ []) ≡ 0
    digit d = rw (ne_eqb (48 + d) 10 (λ h. omega (arith, h)))

    go : (b : Bool) → new_lines (spelled f (n / 10)) ≡ 0 → new_lines (cond b ((48 + n) ∷ []) (spelled f (n / 10) ++ ((48 + n % 10) ∷ []))) ≡ 0
    go true h = digit n
    go false h = rw (new_lines_both (spelled f (n / 10)) ((48 + n % 10) ∷ []), h, digit (n % 10))

number_lines : (n after : ℕ) → new_lines (number_then n after) ≡ one_if (eqb after 10)
unfolding number_then decimal_of
number_lines n after = rw (new_lines_both (spelled 10 n) (after ∷ []), none_in_digits 10 n) (omega arith)

line_lines : (ns : List ℕ) → new_lines (line_of ns) ≡ 1
unfolding line_of
line_lines [] = refl
line_lines (n ∷ []) = number_lines n 10
line_lines (n ∷ m ∷ rest) = rw (new_lines_both (number_then n 32) (line_of (m ∷ rest)), number_lines n 32, line_lines (m ∷ rest))

numbered_lines : (k : ℕ) (outcomes : List Outcome) → new_lines (numbered k outcomes) ≡ length outcomes
unfolding numbered
numbered_lines k [] = refl
numbered_lines k (o ∷ rest) = rw (new_lines_both (record_line k o) (numbered (suc k) rest), line_lines (k ∷ o.answer ∷ o.drift ∷ told o.counts), numbered_lines (suc k) rest) (omega arith)

-- "the lines are as many as the records"
pub lines_as_many : (records : List (List ℕ)) → new_lines (lines_of records) ≡ length records
lines_as_many records = numbered_lines 0 (run_of init_bank records) ∙ as_many init_bank records
