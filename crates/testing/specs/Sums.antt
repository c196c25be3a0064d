-- The checksum of words: the digits of a number to the base 1,000,003, modulo the largest prime below 2^32. Assumes nothing.
use Rattle.std.specs.Prelude.{List, map, ℕ, ◌+◌, ◌*◌, ◌%◌, Float}
use Rattle.std.specs.List.{fold}
use Rattle.std.specs.Float.{binary32}
use Rattle.std.specs.Float.Ieee.{to_bits}

abbrev pub next_sum : ℕ → ℕ → ℕ
next_sum sum word = (sum * 1000003 + word) % 4294967291

abbrev pub sum_of : List ℕ → ℕ
sum_of words = fold next_sum 0 words

-- of samples it is that of their bits; a NaN's are 7fc00000
abbrev pub bits_of : List Float → List ℕ
bits_of xs = map (to_bits binary32) xs

abbrev pub checksum_of : List Float → ℕ
checksum_of xs = sum_of (bits_of xs)
