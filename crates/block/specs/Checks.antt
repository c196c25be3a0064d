-- The checks of a call, in 01's order: "the first wins". Assumes nothing.
use Rattle.std.specs.Prelude.{◌≡◌, ℕ, ◌<◌, Bool, true, false, cond, List, [], ◌∷◌, length, nat_le, Float}
use Rattle.block.specs.Calls.{Call, refusal}

infix 70 ◌unless◌
-- a check: the number that a call gets for failing it, and whether it passes
pub record Check : Type 0 where
  pub number : ℕ
  pub passes : Bool

abbrev pub ◌unless◌ : ℕ → Bool → Check
number unless passes = record { number = number; passes = passes }

-- "more than 4,096 samples": the first check of every oscillator
abbrev pub length_check : List Float → Check
length_check xs = 1 unless nat_le (length xs) 4096

-- the refusal of the first check that fails; where all pass, c
unfoldable pub checked : {S : Type 0} → List Check → S → List Float → Call S → Call S
checked [] s xs c = c
checked (k ∷ ks) s xs c = cond k.passes (checked ks s xs c) (refusal k.number 0 s xs)

-- "in this order": each number is above the one before it
abbrev pub InOrder : ℕ → List Check → Type 0
InOrder n [] = Unit {0}
InOrder n (k ∷ ks) = (n < k.number) × InOrder k.number ks

-- in the words of a promise: all pass, or this is the first that fails
abbrev pub AllPass : List Check → Type 0
AllPass [] = Unit {0}
AllPass (k ∷ ks) = (k.passes ≡ true) × AllPass ks

pub data FirstFailing : List Check → Check → Type 0 where
  here : {k : Check} {ks : List Check} → k.passes ≡ false → FirstFailing (k ∷ ks) k
  later : {j k : Check} {ks : List Check} → j.passes ≡ true → FirstFailing ks k → FirstFailing (j ∷ ks) k
