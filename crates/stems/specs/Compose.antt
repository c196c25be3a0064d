-- What is answered for a rate and a job list, and what is left in the lent bytes. Assumes nothing.
use Rattle.std.specs.Prelude.{Bool, ◌&&◌, cond, List, [], ℕ, ◌/◌, leb, eqb, length, drop, Float, Result, Ok, Err}
use Rattle.block.specs.declared.refusal.Refusal.TheVariants.{BadInput}
use Rattle.block.specs.Answers.{refusal_number}
use Rattle.jobs.specs.Words.{word_at}
use Rattle.bank.specs.Bank.{init_bank}
use Rattle.render.specs.Lists.{records_from, is_job_list}
use Rattle.wave.specs.declared.Refusal.TheVariants.{BadParam}
use Rattle.wave.specs.Form.{stem_of}
use Rattle.wave.specs.Write.{is_fit, write_of, number_of as wave_number}
use Rattle.stems.specs.declared.Refusal.{Refusal}
use Rattle.stems.specs.declared.Refusal.TheVariants.{BadInput as Malformed, Wave}
use Rattle.stems.specs.Sound.{sound_of}

-- the rate, four bytes, the lowest first; then a job list
abbrev pub given_rate : List ℕ → ℕ
given_rate input = word_at input 0

abbrev pub given_list : List ℕ → List ℕ
given_list input = drop 4 input

abbrev pub is_input : List ℕ → Bool
is_input input = leb 4 (length input) && is_job_list (given_list input)

-- what a job list sounds like, from the states that every kind starts from
abbrev pub sound_in : List ℕ → List Float
sound_in list = sound_of init_bank (records_from list 0 (length list / 64))

-- what is returned and stands in the lent bytes afterwards: the number, how many bytes the stem has, and the bytes
pub record Handed : Type 0 where
  pub number : ℕ
  pub count : ℕ
  pub bytes : List ℕ

-- what `wave` writes of samples, and how much that is
unfoldable pub written : ℕ → List Float → List ℕ → Handed
written rate xs d =
    let h = write_of rate xs d in
    record { number = h.number; count = cond (eqb h.number 0) (length (stem_of rate xs)) 0; bytes = h.bytes }

-- 8, BadInput, for bytes that are no rate and job list, and then what `wave` answers: 4, also for too many samples in all, then 9, and else 0 and the stem
unfoldable pub compose_of : List ℕ → List ℕ → Handed
compose_of input d =
    cond (is_input input)
    (written (given_rate input) (sound_in (given_list input)) d)
    (record { number = refusal_number BadInput; count = 0; bytes = d })

-- the same of what the function answered, by cases: its number, its count, and both beside the bytes
abbrev pub number_of : Result ℕ Refusal → ℕ
number_of (Ok n) = wave_number (Ok tt)
number_of (Err Malformed) = refusal_number BadInput
number_of (Err (Wave refusal)) = wave_number (Err refusal)

abbrev pub count_of : Result ℕ Refusal → ℕ
count_of (Ok n) = n
count_of (Err refusal) = 0

abbrev pub handed_back : Result ℕ Refusal → List ℕ → Handed
handed_back r d = record { number = number_of r; count = count_of r; bytes = d }

-- ---- in the words of a promise
-- whether an input has a stem, which one, and the number where there is always room
abbrev pub has_stem : List ℕ → Bool
has_stem input = is_input input && is_fit (given_rate input) (sound_in (given_list input))

unfoldable pub stem_for : List ℕ → List ℕ
stem_for input = cond (has_stem input) (stem_of (given_rate input) (sound_in (given_list input))) []

unfoldable pub number_for : List ℕ → ℕ
number_for input = cond (has_stem input) (wave_number (Ok tt)) (cond (is_input input) (wave_number (Err BadParam)) (refusal_number BadInput))
