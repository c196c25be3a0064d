-- The counts of 01, and the late crossings of 02 (iii): none, their sum, a bool counted, and how they are told. Assumes nothing.
use Rattle.std.specs.Prelude.{ℕ, ◌+◌, ◌%◌, ◌^◌, Bool, cond, List, [], ◌∷◌}
use Rattle.block.specs.declared.Counts.{Counts}

abbrev pub no_counts : Counts
no_counts = record { cycles = 0; rises = 0; falls = 0; cuts = 0; late_rises = 0; late_falls = 0 }

abbrev pub plus : Counts → Counts → Counts
plus a b = record {
  cycles = a.cycles + b.cycles;
  rises = a.rises + b.rises;
  falls = a.falls + b.falls;
  cuts = a.cuts + b.cuts;
  late_rises = a.late_rises + b.late_rises;
  late_falls = a.late_falls + b.late_falls;
}

-- those of a list added up, from c on
unfoldable pub total : Counts → List Counts → Counts
total c [] = c
total c (d ∷ rest) = total (plus c d) rest

-- as 32-bit numbers hold them
abbrev pub modulo32 : Counts → Counts
modulo32 c = record {
  cycles = c.cycles % 2 ^ 32;
  rises = c.rises % 2 ^ 32;
  falls = c.falls % 2 ^ 32;
  cuts = c.cuts % 2 ^ 32;
  late_rises = c.late_rises % 2 ^ 32;
  late_falls = c.late_falls % 2 ^ 32;
}

-- a bool "taken as 1 or 0"
abbrev pub one_if : Bool → ℕ
one_if b = cond b 1 0

-- 02 (iii): "Rises and falls then mean those not late". What 01 counts, late or not
abbrev pub all_rises : Counts → ℕ
all_rises c = c.rises + c.late_rises

abbrev pub all_falls : Counts → ℕ
all_falls c = c.falls + c.late_falls

-- 02 (iii): "01 counts every crossing as heard": c with the late ones added back
abbrev pub as_heard : Counts → Counts
as_heard c = record { cycles = c.cycles; rises = all_rises c; falls = all_falls c; cuts = c.cuts; late_rises = 0; late_falls = 0 }

-- 02 (iii): "Late ones go to a fifth number", rises and falls together. 32 bits hold it: a call has 3 for each of its samples at most (`late_whole` in proofs/Oscillators).
abbrev pub late : Counts → ℕ
late c = (c.late_rises + c.late_falls) % 2 ^ 32

-- the order in which a call's counts are told, over words and in a line of the renderer
abbrev pub told : Counts → List ℕ
told c = c.cycles ∷ c.rises ∷ c.falls ∷ c.cuts ∷ late c ∷ []
