-- The loop over the records, of plain lists. Assumes nothing.
use mathlib.Core.Path.{◌≡◌, sym, ap, ◌∙◌}
use mathlib.Core.List.{List, [], ◌++◌, append_assoc, append-nil}
use Prim.Native.Nat.{ℕ, suc, ◌+◌, ◌*◌, ◌≤◌, ◌<◌}
use native.Mathlib.Numerals.{add-one}
use native.Mathlib.Omega.{arith}
use lib.ListN.{length}
use lib.Ieee.{Float}
use Rattle.std.specs.Prelude.{Result}
use Rattle.block.specs.declared.refusal.Refusal.{Refusal}
use Rattle.block.specs.declared.Counts.{Counts}
use Rattle.jobs.specs.Words.{record_of}
use Rattle.bank.specs.declared.Bank.{Bank}
use Rattle.render.specs.Line.{record_line}
use Rattle.bank.specs.Bank.{init_bank, record_played}
use Rattle.bank.specs.Lent.{Handed, handed_back, play_of}
use Rattle.bank.proofs.Room.{always_room}
use Rattle.render.specs.Lists.{records_from, run_of, numbered, lines_of}
use Rattle.render.specs.Private.{Said, said_by, said_of}

-- one record, in a buffer that has room for any
pub said : (b b' : Bank) (p : List ℕ) (r : Result Counts Refusal) (d d' : List Float) → 4096 ≤ length d → handed_back r b' d' ≡ play_of b p d → said_by r b' ≡ said_of (record_played b p)
said b b' p r d d' h e =
    let same = e ∙ always_room b p d h in
    rw (ap (λ (x : Handed). x.bank) same, ap (λ (x : Handed). x.outcome) same)

-- k of n records are done: their lines are the text, and with those of the rest after them they are all
pub record Running (list : List ℕ) (n : ℕ) (text : List ℕ) (b : Bank) (k : ℕ) : Type 0 where
  pub short : length text ≤ 88 * k
  pub all : (m : ℕ) → k + m ≡ n → lines_of (records_from list 0 n) ≡ text ++ numbered k (run_of b (records_from list k m))

module _ (list : List ℕ) (n : ℕ) where
  pub running_start : (b : Bank) (text : List ℕ) → b ≡ init_bank → text ≡ [] → Running list n text b 0
  running_start b text h e = record { short = rw e (omega arith); all = λ m p. let g : m ≡ n = omega arith in rw (g, h, e) }

  module _ (text : List ℕ) (b : Bank) (k : ℕ) (w : Running list n text b k) where
    pub running_end : n ≡ k → text ≡ lines_of (records_from list 0 n)
    unfolding numbered run_of records_from
    running_end h = sym (w.all 0 (omega arith) ∙ append-nil text)

    pub running_more : (r : Said) (text' : List ℕ) → k < n → r ≡ said_of (record_played b (record_of list k))
        → text' ≡ text ++ record_line k r.outcome → length text' ≤ length text + 88 → Running list n text' r.bank (k + 1)
    unfolding numbered run_of records_from
    running_more r text' h q p l = record {
      short = omega (arith, w.short);
      all = λ m g. w.all (suc m) (omega arith) ∙ rw (p, q, add-one) (sym (append_assoc text _ _));
    }
