-- What `write` answers, and what it leaves in the lent bytes. Assumes nothing.
use Rattle.std.specs.Prelude.{Bool, true, not, ◌&&◌, cond, List, [], ◌∷◌, ◌++◌, ℕ, ◌+◌, ◌*◌, leb, length, drop, Float, Result, Ok, Err}
use Rattle.std.specs.Float.Ieee.{is_nan}
use Rattle.wave.specs.declared.Refusal.{Refusal}
use Rattle.wave.specs.declared.Refusal.TheVariants.{BadParam, NoRoom}
use Rattle.wave.specs.Form.{stem_of}

-- "rate 1 to 384,000"
abbrev pub rate_in : ℕ → Bool
rate_in rate = leb 1 rate && leb rate 384000

-- no sample is a NaN
unfoldable pub all_numbers : List Float → Bool
all_numbers [] = true
all_numbers (x ∷ rest) = not (is_nan x) && all_numbers rest

-- "4 for rate, count or a NaN sample"; "Up to 1,048,576 samples"
abbrev pub is_fit : ℕ → List Float → Bool
is_fit rate xs = (rate_in rate && leb (length xs) 1048576) && all_numbers xs

-- what is returned, as its number, and stands in the lent bytes afterwards
pub record Handed : Type 0 where
  pub number : ℕ
  pub bytes : List ℕ

-- "4 for rate, count or a NaN sample, then 9 NoRoom exactly when the lent bytes are fewer than 44 plus two per sample; a refusal writes nothing, and
-- bytes past the stem stay"
unfoldable pub write_of : ℕ → List Float → List ℕ → Handed
write_of rate xs d =
    cond (not (is_fit rate xs)) (record { number = 4; bytes = d })
    (cond (not (leb (44 + 2 * length xs) (length d))) (record { number = 9; bytes = d })
    (record { number = 0; bytes = stem_of rate xs ++ drop (44 + 2 * length xs) d }))

-- the same of what the function answered, by cases
abbrev pub number_of : Result (Unit {0}) Refusal → ℕ
number_of (Ok done) = 0
number_of (Err BadParam) = 4
number_of (Err NoRoom) = 9

abbrev pub handed_back : Result (Unit {0}) Refusal → List ℕ → Handed
handed_back r d = record { number = number_of r; bytes = d }
