-- Which of its forms the text has, and the text handed over. No text is longer than the room that the library names. Assumes nothing.
use mathlib.Core.Path.{◌≡◌, refl, ap, subst, ◌∙◌}
use mathlib.Core.Bool.{Bool, true, false, cond}
use mathlib.Core.List.{List, [], ◌∷◌, ◌++◌}
use Prim.Native.Nat.{ℕ, suc, ◌*◌, ◌/◌, ◌%◌, ◌≤◌}
use native.Mathlib.Omega.{arith}
use borrow.Author.Tests.{le-leb, eq-eqb, leb-true}
use lib.Dec.{leb}
use lib.ListN.{length, take, drop, length-append}
use lib.Seq.{take_at}
use Rattle.floats.proofs.Bools.{and_both}
use Rattle.std.specs.Prelude.{Result}
use Rattle.block.specs.declared.refusal.Refusal.{Refusal}
use Rattle.block.specs.declared.refusal.Refusal.TheVariants.{BadInput}
use Rattle.block.specs.Answers.{refusal_number, number_of as answer_number}
use Rattle.block.specs.Counting.{told}
use Rattle.bank.specs.Bank.{Outcome, init_bank}
use Rattle.render.specs.declared.Written.{Written}
use Rattle.render.specs.Line.{number_then, line_of}
use Rattle.render.specs.Lists.{records_from, run_of, numbered, lines_of, is_job_list, text_of, answer_if, Handed, written, render_of, count_of, handed_back, new_lines}
use Rattle.render.proofs.Digits.{decimal_long}
use Rattle.render.proofs.Lists.{as_many, how_many, lines_as_many}

-- the forms of a text
module _ (list : List ℕ) where
  pub good_list : is_job_list list ≡ true → text_of list ≡ lines_of (records_from list 0 (length list / 64))
  unfolding text_of
  good_list h = rw h

  pub bad_list : is_job_list list ≡ false → text_of list ≡ number_then (refusal_number BadInput) 10
  unfolding text_of line_of
  bad_list h = rw h

  -- a job list has few records
  pub few_records : is_job_list list ≡ true → length list ≤ 65536
  few_records h = leb-true (length list) 65536 (and_both _ _ h).0

-- what a caller may read of the buffer afterwards
pub inside : (r : Written) (d' : List ℕ) (answer : Result (Unit {0}) Refusal) (text d : List ℕ) → handed_back r d' ≡ written answer text d → count_of r ≤ length d'
unfolding written
inside r d' answer text d = go (leb (length text) (length d))
  where
    go : (t : Bool) → handed_back r d' ≡ cond t (record { number = answer_number answer; count = length text; buffer = text ++ drop (length text) d }) (record { number = 9; count = 0; buffer = d })
        → count_of r ≤ length d'
    go true h = omega (arith, ap (λ (x : Handed). x.count) h, ap (λ (x : Handed). length x.buffer) h, length-append text (drop (length text) d))
    go false h = omega (arith, ap (λ (x : Handed). x.count) h)

-- ---- the longest text
pub number_long : (n after : ℕ) → length (number_then n after) ≤ 11
unfolding number_then
number_long n after = simp length-append (omega (arith, decimal_long n))

line_long : (n : ℕ) (rest : List ℕ) → length (line_of (n ∷ rest)) ≤ 11 * length (n ∷ rest)
unfolding line_of
line_long n [] = number_long n 10
line_long n (m ∷ rest) = simp length-append (omega (arith, number_long n 32, line_long m rest))

numbered_long : (k : ℕ) (outcomes : List Outcome) → length (numbered k outcomes) ≤ 88 * length outcomes
unfolding numbered
numbered_long k [] = omega arith
numbered_long k (o ∷ rest) = simp length-append (omega (arith, line_long k (o.answer ∷ o.drift ∷ told o.counts), numbered_long (suc k) rest))

lines_long : (records : List (List ℕ)) → length (lines_of records) ≤ 88 * length records
lines_long records = subst (λ (n : ℕ). length (lines_of records) ≤ 88 * n) (as_many init_bank records) (numbered_long 0 (run_of init_bank records))

pub text_long : (list : List ℕ) → length (text_of list) ≤ 90112
text_long list = go (is_job_list list) refl
  where
    go : (t : Bool) → is_job_list list ≡ t → length (text_of list) ≤ 90112
    go true h = rw (good_list list h) (omega (arith, few_records list h, lines_long (records_from list 0 (length list / 64)), how_many list 0 (length list / 64)))
    go false h = rw (bad_list list h) (omega (arith, number_long (refusal_number BadInput) 10))

-- a buffer of the size that the library names is never too short: the number is 8 for a malformed list, and 0 for every other
pub always_room : (list d : List ℕ) → 90112 ≤ length d → (render_of list d).number ≡ answer_number (answer_if (is_job_list list))
unfolding written
always_room list d h = rw (le-leb (length (text_of list)) (length d) (omega (arith, text_long list)))

-- what a program that lends so much room writes of it: the text, and nothing else
pub whole_text : (r : Written) (d' list d : List ℕ) → handed_back r d' ≡ render_of list d → 90112 ≤ length d → take (count_of r) d' ≡ text_of list
unfolding written
whole_text r d' list d e h =
    let fits = rw (le-leb (length (text_of list)) (length d) (omega (arith, text_long list))) at e in
    rw (ap (λ (x : Handed). x.count) fits, ap (λ (x : Handed). x.buffer) fits) (take_at (text_of list) _ _ refl)

-- the text of a list that is not refused as a whole has a line for each of its records
pub line_for_each : (list : List ℕ) → length list ≤ 65536 → length list % 64 ≡ 0 → new_lines (text_of list) ≡ length list / 64
line_for_each list h o =
    let good : is_job_list list ≡ true = rw (le-leb (length list) 65536 h, eq-eqb (length list % 64) 0 o) in
    rw (good_list list good) (lines_as_many (records_from list 0 (length list / 64)) ∙ how_many list 0 (length list / 64))
