-- What a job list sounds like. Assumes nothing.
use Rattle.std.specs.Prelude.{cond, List, [], ◌∷◌, ◌++◌, ℕ, ◌+◌, eqb, Float}
use Rattle.jobs.specs.Record.{job_of}
use Rattle.bank.specs.declared.Bank.{Bank}
use Rattle.bank.specs.Bank.{record_played}

-- 02 (xii), of a stem: "samples laid end to end over the records answered Done", each record from the states that the one before left. Any other answer
-- has no samples.
unfoldable pub sound_of : Bank → List (List ℕ) → List Float
sound_of b [] = []
sound_of b (p ∷ rest) = let r = record_played b p in r.samples ++ sound_of r.bank rest

-- ---- in the words of a promise
-- how many samples a record leaves that is answered so: as many as it says, where the answer is Done
abbrev pub left_of : ℕ → List ℕ → ℕ
left_of answer p = cond (eqb answer 0) (job_of p).block_length 0

-- and all of a list
unfoldable pub left_by : Bank → List (List ℕ) → ℕ
left_by b [] = 0
left_by b (p ∷ rest) = let r = record_played b p in left_of r.outcome.answer p + left_by r.bank rest
