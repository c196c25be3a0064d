-- 02 (iii), crossings past the reset: "Late ones go to a fifth number", and what they have to do with 01's counts. Of every call, answered or refused. Assumes nothing.
use Rattle.std.specs.Prelude.{◌≡◌, ◌+◌}
use Rattle.block.specs.Counting.{late}
use Rattle.block.specs.Calls.{call_as_heard}
use Rattle.block.specs.Oscillator.{Oscillator, call_of}
use Rattle.block.specs.Limits.{NoneLate}
use Rattle.block.specs.Account.{Phases32}

-- the number that is told is the late rises and the late falls together: 32 bits are enough for it
abbrev pub BothTogether : {S A : Type 0} → Oscillator S A → Type 0
BothTogether {S} {A} o = (s : S) → Phases32 o s → (a : A) → (let c = (call_of o s a).counts in late c ≡ c.late_rises + c.late_falls)

-- "01 counts every crossing as heard": a call of 01's oscillator, `before`, gave what this one gives with the late ones added back
abbrev pub CountedIn01 : {S A : Type 0} → Oscillator S A → Oscillator S A → Type 0
CountedIn01 {S} {A} before o = (s : S) (a : A) → call_of before s a ≡ call_as_heard (call_of o s a)

-- and without sync it gave the same
abbrev pub SameAsIn01 : {S A : Type 0} → Oscillator S A → Oscillator S A → Type 0
SameAsIn01 {S} {A} before o = (s : S) (a : A) → call_of before s a ≡ call_of o s a

-- since without sync nothing is late, neither a rise nor a fall, and the number that is told is 0
pub record NeverLate {S A : Type 0} (o : Oscillator S A) : Type 0 where
  pub apart : (s : S) (a : A) → NoneLate (call_of o s a).counts
  pub told : (s : S) (a : A) → late (call_of o s a).counts ≡ 0
