-- The little-endian words of a record. Past its end all is 0. Assumes nothing.
use Rattle.std.specs.Prelude.{◌≡◌, List, length, ℕ, ◌+◌, ◌*◌, ◌<◌, get_or}

abbrev pub word_at : List ℕ → ℕ → ℕ
word_at bytes at = get_or bytes at 0 + 0x100 * get_or bytes (at + 1) 0 + 0x1_0000 * get_or bytes (at + 2) 0 + 0x100_0000 * get_or bytes (at + 3) 0

-- so many of them, one after the other
abbrev pub AreWordsAt : List ℕ → ℕ → ℕ → List ℕ → Type 0
AreWordsAt bytes at count words = (length words ≡ count) × ((k : ℕ) → k < count → get_or words k 0 ≡ word_at bytes (at + 4 * k))
