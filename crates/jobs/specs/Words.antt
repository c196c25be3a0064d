-- Record k of a job list, and the little-endian words and floats of a record. Past the end all is 0. Assumes nothing.
use Rattle.std.specs.Prelude.{◌&&◌, cond, List, [], ◌∷◌, ℕ, zero, suc, ◌+◌, ◌*◌, ◌/◌, ◌%◌, eqb, ltb, length, get_or, take, drop, Float}
use Rattle.floats.specs.F32.{f32}

-- "for a list whose length is no multiple of 64, or a k past its end, the part is empty"
abbrev pub record_of : List ℕ → ℕ → List ℕ
record_of list k = cond (eqb (length list % 64) 0 && ltb k (length list / 64)) (take 64 (drop (k * 64) list)) []

-- two bytes, and four
abbrev pub short_at : List ℕ → ℕ → ℕ
short_at p i = get_or p i 0 + 256 * get_or p (i + 1) 0

abbrev pub word_at : List ℕ → ℕ → ℕ
word_at p i = short_at p i + 65536 * short_at p (i + 2)

-- the float of any bit pattern: a NaN's is a NaN, which the call then refuses as a parameter
unfoldable pub float_at : List ℕ → ℕ → Float
float_at p i = f32 (word_at p i)

-- n floats, one after the other
unfoldable pub floats_at : ℕ → List ℕ → ℕ → List Float
floats_at zero p i = []
floats_at (suc n) p i = float_at p i ∷ floats_at n p (i + 4)
