-- What the crate's own functions ask of each other. No public contract cites it, and a reader need not believe it. Assumes nothing.
use Rattle.std.specs.Prelude.{Result}
use Rattle.block.specs.declared.refusal.Refusal.{Refusal}
use Rattle.block.specs.declared.Counts.{Counts}
use Rattle.bank.specs.declared.Bank.{Bank}
use Rattle.bank.specs.Bank.{Outcome, told_of, Made}

-- what the lines need of what a record makes
pub record Said : Type 0 where
  pub bank : Bank
  pub outcome : Outcome

abbrev pub said_of : Made → Said
said_of m = record { bank = m.bank; outcome = m.outcome }

-- and as it is answered
abbrev pub said_by : Result Counts Refusal → Bank → Said
said_by r b = record { bank = b; outcome = told_of r }
