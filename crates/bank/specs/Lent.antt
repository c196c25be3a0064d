-- A record's samples in a lent buffer. Assumes nothing.
use Rattle.std.specs.Prelude.{cond, List, ◌++◌, ℕ, leb, length, drop, Float, Result, Err}
use Rattle.block.specs.declared.refusal.Refusal.{Refusal}
use Rattle.block.specs.declared.refusal.Refusal.TheVariants.{NoRoom}
use Rattle.block.specs.declared.Counts.{Counts}
use Rattle.bank.specs.declared.Bank.{Bank}
use Rattle.bank.specs.Bank.{Outcome, told_of, Made, record_played}

-- what is returned, and stands in the buffer afterwards
pub record Handed : Type 0 where
  pub bank : Bank
  pub outcome : Outcome
  pub buffer : List Float

abbrev pub handed_back : Result Counts Refusal → Bank → List Float → Handed
handed_back r b d = record { bank = b; outcome = told_of r; buffer = d }

-- 9, NoRoom, a number that 01 leaves free: the states and the buffer as given, and nothing counted
abbrev pub no_room : Bank → List Float → Handed
no_room b d = handed_back (Err NoRoom) b d

-- The samples go to the buffer's front, and what lies past them stays; a refused record has none, and so touches none.
-- Without room for all of them nothing is written, and the states stay those before the record.
unfoldable pub handed : Bank → Made → List Float → Handed
handed b m d =
    cond (leb (length m.samples) (length d))
    (record { bank = m.bank; outcome = m.outcome; buffer = m.samples ++ drop (length m.samples) d })
    (no_room b d)

-- a record played into a lent buffer
abbrev pub play_of : Bank → List ℕ → List Float → Handed
play_of b p d = handed b (record_played b p) d
