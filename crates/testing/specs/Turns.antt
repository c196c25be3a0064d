-- The turns that a program takes over its input. Assumes nothing.
use Rattle.std.specs.Prelude.{◌≡◌, Bool, true, false, ℕ, zero, suc, ◌<◌, ◌⊎◌}

-- so many turns, each of which answers that more is to come: `step f more g` is one, which finds f, answers `more` and leaves g
abbrev pub Taken : {F : Type 0} → (F → Bool → F → Type 0) → ℕ → F → F → Type 0
Taken step zero first last = first ≡ last
Taken {F} step (suc n) first last = (next : F) × step first true next × Taken step n next last

-- after them one that answers that no more is, unless they are as many as there may be
pub record Turns {F : Type 0} (step : F → Bool → F → Type 0) (most : ℕ) (first : F) : Type 0 where
  pub taken : ℕ
  pub left : F
  pub go_on : Taken step taken first left
  pub ends : ((taken < most) × ((last : F) × step left false last)) ⊎ (taken ≡ most)
