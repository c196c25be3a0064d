-- What is promised of counts: of one sample, of a call, and of the crossings. Assumes nothing.
use Rattle.std.specs.Prelude.{◌≡◌, ℕ, ◌+◌, ◌*◌, ◌≤◌, Bool, List, [], ◌∷◌}
use Rattle.block.specs.declared.Counts.{Counts}
use Rattle.block.specs.Counting.{one_if, all_rises, all_falls}

-- "No sample counts two cycles, two falls or three rises." 02 (iii): "Demand 3's limits are on all crossings, late or not."
pub record Limited (c : Counts) : Type 0 where
  pub cycles : c.cycles ≤ 1
  pub falls : all_falls c ≤ 1
  pub rises : all_rises c ≤ 2

abbrev pub EachLimited : List Counts → Type 0
EachLimited [] = Unit {0}
EachLimited (c ∷ rest) = Limited c × EachLimited rest

-- at most n samples' worth of counts
pub record Few (n : ℕ) (c : Counts) : Type 0 where
  pub cycles : c.cycles ≤ n
  pub rises : all_rises c ≤ n * 2
  pub falls : all_falls c ≤ n
  pub cuts : c.cuts ≤ n

-- 01: "rises - falls - cuts equals `high` after less `high` before, taken as 1 or 0"; 02 (iii): "01's balance reads rises and falls with the late ones added back"
abbrev pub Balanced : Bool → Counts → Bool → Type 0
Balanced before c after = all_rises c + one_if before ≡ all_falls c + c.cuts + one_if after

-- 01: "For NES and string .. falls and cuts are 0"
pub record NeitherFallsNorCuts (c : Counts) : Type 0 where
  pub falls : all_falls c ≡ 0
  pub cuts : c.cuts ≡ 0

-- none of them is late
pub record NoneLate (c : Counts) : Type 0 where
  pub rises : c.late_rises ≡ 0
  pub falls : c.late_falls ≡ 0
