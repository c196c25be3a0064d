-- Which samples are numbers. Assumes nothing.
use mathlib.Core.Path.{◌≡◌, refl}
use mathlib.Core.Bool.{not}
use mathlib.Core.List.{List, [], ◌∷◌}
use Rattle.std.specs.List.{list_all}
use lib.Ieee.{Float, is_nan}
use Rattle.wave.specs.Write.{all_numbers}

-- as the library asks it of each
pub each_number : (xs : List Float) → list_all (λ x. not (is_nan x)) xs ≡ all_numbers xs
unfolding all_numbers
each_number [] = refl
each_number (x ∷ rest) = rw (each_number rest)
