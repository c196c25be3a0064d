-- 01's module 3: `as i32` on numbers from 0 up to 131,072. Assumes nothing.
use Rattle.std.specs.Prelude.{Bool, false, ℕ, min, eqb, ℤ, pos, negsuc, Float}
use Rattle.std.specs.Float.Ieee.{to_unsigned}

-- Rust's cast to a whole number, towards zero, kept within 0 to 131,072. From 0 to 131,072 that is `as i32`;
-- what lies below, and a NaN, gives 0, and what lies above gives 131,072.
abbrev pub whole_part : Float → ℕ
whole_part x = min (to_unsigned 32 x) 131072

-- whether a whole part is the number that an i32 holds: it never is a negative one
abbrev pub is_whole : ℕ → ℤ → Bool
is_whole whole (pos n) = eqb whole n
is_whole whole (negsuc n) = false
