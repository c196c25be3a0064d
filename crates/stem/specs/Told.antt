-- What the program says of a stem, by cases: the number, and how many bytes it writes. Assumes nothing.
use Rattle.std.specs.Prelude.{ℕ, Result, Ok, Err}
use Rattle.wave.specs.Write.{number_of as wave_number}

-- with a stem no number is said; it is 0
abbrev pub number_of : Result ℕ ℕ → ℕ
number_of (Ok n) = wave_number (Ok tt)
number_of (Err number) = number

-- without one nothing is written
abbrev pub count_of : Result ℕ ℕ → ℕ
count_of (Ok n) = n
count_of (Err number) = 0
