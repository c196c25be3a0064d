-- A line of the renderer: numbers in decimal. Assumes nothing.
use Rattle.std.specs.Prelude.{cond, List, [], ◌∷◌, ◌++◌, ℕ, zero, suc, ◌+◌, ◌/◌, ◌%◌, ltb}
use Rattle.block.specs.Counting.{told}
use Rattle.bank.specs.Bank.{Outcome}

-- the last f digits of n, the most significant first, and no zero before them; in ASCII the digit 0 is 48
unfoldable pub spelled : ℕ → ℕ → List ℕ
spelled zero n = []
spelled (suc f) n = cond (ltb n 10) ((48 + n) ∷ []) (spelled f (n / 10) ++ ((48 + n % 10) ∷ []))

-- a number in decimal, as ASCII: ten digits hold every 32-bit number, and all that a line says are such
unfoldable pub decimal_of : ℕ → List ℕ
decimal_of n = spelled 10 n

-- and the byte after it: 32 is a space, 10 a new line
unfoldable pub number_then : ℕ → ℕ → List ℕ
number_then n after = decimal_of n ++ (after ∷ [])

-- numbers on a line of their own: in decimal, a space between, a new line at the end
unfoldable pub line_of : List ℕ → List ℕ
line_of [] = 10 ∷ []
line_of (n ∷ []) = number_then n 10
line_of (n ∷ m ∷ rest) = number_then n 32 ++ line_of (m ∷ rest)

-- "record index, answer, Drift index (else 0), cycles, rises, falls, cuts", and 02 (iii): late "ends the renderer's line"
abbrev pub record_line : ℕ → Outcome → List ℕ
record_line k o = line_of (k ∷ o.answer ∷ o.drift ∷ told o.counts)
