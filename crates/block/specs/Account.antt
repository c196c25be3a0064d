-- Demand 3, in words that fit every oscillator: what a chain of calls is held against. Assumes nothing.
use Rattle.std.specs.Prelude.{ℕ, ◌*◌, ◌≤◌, T, List, [], ◌∷◌, length, ℤ, pos, ◌+ℤ◌, ◌-ℤ◌, unsigned_abs, Float}
use Rattle.std.specs.Float.{binary32}
use Rattle.std.specs.Float.Ieee.{fits}
use Rattle.floats.specs.Units.{units}
use Rattle.block.specs.Oscillator.{Oscillator}

-- the exact sum of floats, in units of 2 ^ -149
unfoldable pub sum_units : List Float → ℤ
sum_units [] = pos 0
sum_units (x ∷ xs) = units x +ℤ sum_units xs

-- "the cycles counted, plus the last phase, less the first, differ from the exact sum of the frequency steps used by at most" e units for each step;
-- a cycle is w units. They are 2^149 and 2^125, which is 2^-24 cycle; for the string, whose cycle is 8.0 of phase, 2^152 and 2^128
abbrev pub Accounted : ℕ → ℕ → Float → ℕ → Float → List Float → Type 0
Accounted w e first cycles last steps = unsigned_abs ((pos (cycles * w) +ℤ units last) -ℤ (units first +ℤ sum_units steps)) ≤ length steps * e

-- each of these is a binary32 value
abbrev pub AllFit : List Float → Type 0
AllFit [] = Unit {0}
AllFit (x ∷ xs) = T (fits binary32 x) × AllFit xs

-- a state's phases are binary32 values, as those of every state of a program are
abbrev pub Phases32 : {S A : Type 0} → Oscillator S A → S → Type 0
Phases32 o s = AllFit (o.phases s)
