-- The whole text of a job list, and how it is handed over. Assumes nothing.
use Rattle.std.specs.Prelude.{Bool, ◌&&◌, cond, List, [], ◌∷◌, ◌++◌, ℕ, zero, suc, ◌+◌, ◌/◌, ◌%◌, leb, eqb, length, drop, Result, Ok, Err}
use Rattle.block.specs.declared.refusal.Refusal.{Refusal}
use Rattle.block.specs.declared.refusal.Refusal.TheVariants.{BadInput}
use Rattle.block.specs.Answers.{refusal_number, number_of as answer_number}
use Rattle.block.specs.Counting.{one_if}
use Rattle.jobs.specs.Words.{record_of}
use Rattle.bank.specs.declared.Bank.{Bank}
use Rattle.render.specs.declared.Written.{Written}
use Rattle.render.specs.declared.Written.TheVariants.{Text, BadInput as Malformed, NoRoom}
use Rattle.render.specs.Line.{line_of, record_line}
use Rattle.bank.specs.Bank.{Outcome, init_bank, record_played}

-- n records of a list, from record k on
unfoldable pub records_from : List ℕ → ℕ → ℕ → List (List ℕ)
records_from list k zero = []
records_from list k (suc n) = record_of list k ∷ records_from list (suc k) n

-- what the records' lines say, each record from the states that the one before left
unfoldable pub run_of : Bank → List (List ℕ) → List Outcome
run_of b [] = []
run_of b (p ∷ rest) = let r = record_played b p in r.outcome ∷ run_of r.bank rest

-- the lines, numbered from k on
unfoldable pub numbered : ℕ → List Outcome → List ℕ
numbered k [] = []
numbered k (o ∷ rest) = record_line k o ++ numbered (suc k) rest

-- the lines of these records: "Each kind starts from `init`", and the index is the record's place in the list
abbrev pub lines_of : List (List ℕ) → List ℕ
lines_of records = numbered 0 (run_of init_bank records)

-- "at most 65,536 bytes, a multiple of 64"
abbrev pub is_job_list : List ℕ → Bool
is_job_list list = leb (length list) 65536 && eqb (length list % 64) 0

-- "else it prints the one line `8`"
unfoldable pub text_of : List ℕ → List ℕ
text_of list =
    cond (is_job_list list)
    (lines_of (records_from list 0 (length list / 64)))
    (line_of (refusal_number BadInput ∷ []))

-- the renderer's answer to an input: each record's own stands in its line
abbrev pub answer_if : Bool → Result (Unit {0}) Refusal
answer_if good = cond good (Ok tt) (Err BadInput)

-- what is returned and stands in the buffer afterwards: the number, how many bytes were written, and the buffer
pub record Handed : Type 0 where
  pub number : ℕ
  pub count : ℕ
  pub buffer : List ℕ

-- A text goes to the buffer's front, and what lies past it stays. Without room for all of it nothing is written, and the number is 9, NoRoom,
-- which 01 leaves free.
unfoldable pub written : Result (Unit {0}) Refusal → List ℕ → List ℕ → Handed
written answer text d =
    cond (leb (length text) (length d))
    (record { number = answer_number answer; count = length text; buffer = text ++ drop (length text) d })
    (record { number = 9; count = 0; buffer = d })

-- a job list's text in a lent buffer: 8, BadInput, where it is malformed, and else 0
abbrev pub render_of : List ℕ → List ℕ → Handed
render_of list d = written (answer_if (is_job_list list)) (text_of list) d

-- the same of what the function answered, by cases: its number, its count, and both beside the buffer
abbrev pub number_of : Written → ℕ
number_of (Text n) = 0
number_of (Malformed n) = refusal_number BadInput
number_of NoRoom = 9

abbrev pub count_of : Written → ℕ
count_of (Text n) = n
count_of (Malformed n) = n
count_of NoRoom = 0

abbrev pub handed_back : Written → List ℕ → Handed
handed_back r d = record { number = number_of r; count = count_of r; buffer = d }

-- ---- in the words of a promise
-- the states that records leave, from those of b
unfoldable pub bank_after : Bank → List (List ℕ) → Bank
bank_after b [] = b
bank_after b (p ∷ rest) = bank_after (record_played b p).bank rest

-- how many lines a text has: each ends with its one new line
abbrev pub new_lines : List ℕ → ℕ
new_lines [] = 0
new_lines (byte ∷ rest) = one_if (eqb byte 10) + new_lines rest
