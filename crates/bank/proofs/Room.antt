-- How many samples a record has, and what a lent buffer holds after it. Assumes nothing.
use mathlib.Core.Path.{◌≡◌, refl, ap, ◌∙◌}
use mathlib.Core.Bool.{Bool, true, false}
use mathlib.Core.List.{List, ◌++◌}
use Prim.Native.Nat.{ℕ, ◌≤◌}
use native.Mathlib.Omega.{arith}
use borrow.Author.Tests.{eq-eqb, eqb-true}
use lib.Dec.{eqb}
use lib.ListN.{length, drop, length-replicate}
use lib.Ieee.{Float}
use Rattle.floats.specs.F32.{zero32}
use Rattle.block.specs.Calls.{Call}
use Rattle.block.specs.Oscillator.{call_of}
use Rattle.block.proofs.Lengths.{call_long, answered_short}
use Rattle.jobs.specs.Record.{job_of}
use Rattle.bank.specs.declared.Bank.{Bank}
use Rattle.bank.specs.Bank.{Made, heard, record_played}
use Rattle.bank.specs.Lent.{play_of}
use Rattle.bank.proofs.EachKind.{by_record}
use Rattle.bank.proofs.Lending.{with_room}

-- an answered record has as many samples as it says
pub record_long : (b : Bank) (p : List ℕ) → (record_played b p).outcome.answer ≡ 0 → length (record_played b p).samples ≡ (job_of p).block_length
record_long b p =
    by_record b p (λ (m : Made). m.outcome.answer ≡ 0 → length m.samples ≡ (job_of p).block_length) (λ h. absurd (omega (arith, h)))
    (λ S A o s put a same long h. rw (eq-eqb (call_of o s a).number 0 h) (call_long o s a ∙ ap length long ∙ length-replicate (job_of p).block_length zero32))

-- and no record more than 4,096: a refused call is not heard
heard_short : {S : Type 0} (c : Call S) → (c.number ≡ 0 → length c.samples ≤ 4096) → length (heard c) ≤ 4096
heard_short c short = go (eqb c.number 0) refl
  where
    go : (t : Bool) → eqb c.number 0 ≡ t → length (heard c) ≤ 4096
    go true h = rw h (short (eqb-true c.number 0 h))
    go false h = rw h (omega arith)

pub record_short : (b : Bank) (p : List ℕ) → length (record_played b p).samples ≤ 4096
record_short b p =
    by_record b p (λ (m : Made). length m.samples ≤ 4096) (omega arith)
    (λ S A o s put a same long. heard_short (call_of o s a) (λ h. rw (call_long o s a) (answered_short o s a h)))

-- so a buffer of 4,096 samples has room for every record
pub always_room : (b : Bank) (p : List ℕ) (d : List Float) → 4096 ≤ length d
    → play_of b p d ≡ record { bank = (record_played b p).bank; outcome = (record_played b p).outcome; buffer = (record_played b p).samples ++ drop (length (record_played b p).samples) d }
always_room b p d h = with_room b (record_played b p) d (omega (arith, record_short b p))
