-- The answers of 01, "Answer numbers", and 9 of 02 where what is lent is too short: each case's number, and the value that it carries. Assumes nothing.
use Rattle.std.specs.Prelude.{ℕ, Result, Ok, Err}
use Rattle.block.specs.declared.refusal.Refusal.{Refusal}
use Rattle.block.specs.declared.refusal.Refusal.TheVariants.{LongBlock, BadRegistration, BadState, BadParam, TooHigh, Drift, BadRecord, BadInput, NoRoom}

abbrev pub refusal_number : Refusal → ℕ
refusal_number LongBlock = 1
refusal_number BadRegistration = 2
refusal_number BadState = 3
refusal_number BadParam = 4
refusal_number TooHigh = 5
refusal_number (Drift i) = 6
refusal_number BadRecord = 7
refusal_number BadInput = 8
refusal_number NoRoom = 9

-- the index of the first sample with a step outside its room; else 0
abbrev pub refusal_index : Refusal → ℕ
refusal_index LongBlock = 0
refusal_index BadRegistration = 0
refusal_index BadState = 0
refusal_index BadParam = 0
refusal_index TooHigh = 0
refusal_index (Drift i) = i
refusal_index BadRecord = 0
refusal_index BadInput = 0
refusal_index NoRoom = 0

-- Done is 0, with no index
abbrev pub number_of : {T : Type 0} → Result T Refusal → ℕ
number_of (Ok done) = 0
number_of (Err refusal) = refusal_number refusal

abbrev pub index_of : {T : Type 0} → Result T Refusal → ℕ
index_of (Ok done) = 0
index_of (Err refusal) = refusal_index refusal
