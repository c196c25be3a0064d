-- What can be said of a read: no contract says which bytes a program is handed. Assumes nothing.
use Rattle.std.specs.Prelude.{Bool, false, List, ℕ, eqb, Option, Some, None}
use Rattle.io.specs.Counts.{IsPrefixLen}

-- so many bytes stand at the buffer's front; of a read that failed nothing is said
abbrev pub Inside : Option ℕ → List ℕ → Type 0
Inside (Some n) buf = IsPrefixLen n buf
Inside None buf = Unit {0}

-- whether a buffer of this size is full: never after a read that failed
abbrev pub is_full : Option ℕ → ℕ → Bool
is_full (Some n) size = eqb n size
is_full None size = false
