-- Rust's `f32::min`, `max`, `clamp` and `abs`, as total functions. Where Rust leaves the result open, docs/DECISIONS.md has the choice.
-- Assumes nothing.
use Rattle.std.specs.Prelude.{false, cond, ◌||◌, Float}
use Rattle.std.specs.Float.{nan, inf, fin}
use Rattle.std.specs.Float.Ieee.{lt, ne}

-- x where it is below y or y is a NaN, else y: so a NaN gives way to a number, and of two equal values it is the second
abbrev pub min_of : Float → Float → Float
min_of x y = cond (lt x y || ne y y) x y

-- x where it is above y or y is a NaN, else y
abbrev pub max_of : Float → Float → Float
max_of x y = cond (lt y x || ne y y) x y

-- the two tests of Rust's `clamp`, in its order: `low` for what lies below it, then `high` for what lies above that
abbrev pub at_least : Float → Float → Float
at_least x low = cond (lt x low) low x

abbrev pub clamp_of : Float → Float → Float → Float
clamp_of x low high = cond (lt high (at_least x low)) high (at_least x low)

-- the same value with the sign clear
abbrev pub abs_of : Float → Float
abs_of nan = nan
abs_of (inf s) = inf false
abs_of (fin s m e) = fin false m e
