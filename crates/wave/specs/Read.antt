-- A stem read back: whether bytes have the form that `write` gives a stem, at which rate, and its numbers. Assumes nothing.
use Rattle.std.specs.Prelude.{◌≡◌, true, cond, List, [], ◌∷◌, ℕ, ◌+◌, ◌*◌, ◌-◌, ◌≤◌, ltb, ℤ, pos, negsuc, length, take, drop}
use Rattle.wave.specs.Form.{header_of}
use Rattle.wave.specs.Write.{rate_in}

-- 02 (xii): "a header [that] (ii) writes for the bytes held at some rate". The first 44 bytes are the header at this rate of those that come after them,
-- and these are two for each of at most 1,048,576 samples.
pub record WaveAt (rate : ℕ) (file : List ℕ) : Type 0 where
  pub rated : rate_in rate ≡ true
  pub count : ℕ
  pub few : count ≤ 1048576
  pub long : length file ≡ 44 + 2 * count
  pub header : take 44 file ≡ header_of rate (2 * count)

-- a number from its bytes, the lowest first
unfoldable pub of_low_first : List ℕ → ℕ
of_low_first [] = 0
of_low_first (byte ∷ rest) = byte + 256 * of_low_first rest

-- dwSamplesPerSec, in its place
abbrev pub rate_of : List ℕ → ℕ
rate_of file = of_low_first (take 4 (drop 24 file))

-- the number that 16 bits hold
abbrev pub signed : ℕ → ℤ
signed v = cond (ltb v 32768) (pos v) (negsuc (65535 - v))

-- the numbers of samples, two bytes each; a last byte without its second is none
unfoldable pub numbers_of : List ℕ → List ℤ
numbers_of [] = []
numbers_of (low ∷ []) = []
numbers_of (low ∷ high ∷ rest) = signed (of_low_first (low ∷ high ∷ [])) ∷ numbers_of rest

-- those of a file
abbrev pub numbers_in : List ℕ → List ℤ
numbers_in file = numbers_of (drop 44 file)
