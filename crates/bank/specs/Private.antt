-- What the crate's own functions ask of each other. No public contract cites it, and a reader need not believe it. Assumes nothing.
use Rattle.std.specs.Prelude.{cond, List, [], ℕ, leb, eqb, Float, Result}
use Rattle.block.specs.declared.refusal.Refusal.{Refusal}
use Rattle.block.specs.declared.Counts.{Counts}
use Rattle.block.specs.Answers.{number_of}
use Rattle.bank.specs.declared.Bank.{Bank}
use Rattle.bank.specs.Bank.{Made, told_of}

-- one sample more than a call answers stands for every longer block
abbrev pub lent_of : ℕ → ℕ
lent_of n = cond (leb n 4097) n 4097

-- what was returned, with the bank and the block as they are left
abbrev pub made_of : Result Counts Refusal → Bank → List Float → Made
made_of r b xs = record { bank = b; outcome = told_of r; samples = cond (eqb (number_of r) 0) xs [] }
