-- What looks like the text form of a job list. Nothing that is answered depends on it: it decides what the renderer notes on standard error. Assumes nothing.
use Rattle.std.specs.Prelude.{Bool, not, ◌&&◌, ◌||◌, List, ℕ, leb, ltb, eqb, length}
use Rattle.std.specs.List.{list_all}

-- a byte of a text, in ASCII or UTF-8: a tab, a new line, a carriage return, or no control character
abbrev pub is_text : ℕ → Bool
is_text byte = eqb byte 9 || eqb byte 10 || eqb byte 13 || (leb 32 byte && not (eqb byte 127))

abbrev pub all_text : List ℕ → Bool
all_text bytes = list_all is_text bytes

-- some bytes, and all of them are such
abbrev pub looks_like_text : List ℕ → Bool
looks_like_text bytes = ltb 0 (length bytes) && all_text bytes
