-- The table of 01, "Job records and the renderer", with kind 6 of 02 (i): which kinds use which bytes. "Unused bytes must be zero". Assumes nothing.
use Rattle.std.specs.Prelude.{Bool, ◌&&◌, ◌||◌, List, ℕ, eqb, leb}
use Rattle.std.specs.List.{list_all, enumerate_from}

-- byte i is one of those from first to last
abbrev pub between : ℕ → ℕ → ℕ → Bool
between first last i = leb first i && leb i last

-- The table's rows: kind, flags, block length, step count, frequency, master frequency or gain, pulse width or shape, waveshape,
-- phase modulation, registration. No kind uses bytes 56 to 63. Of kind 6 02 (i) names the flags, "byte 8 frequency, byte 16 pulse width".
unfoldable pub byte_used : ℕ → ℕ → Bool
byte_used kind i =
    (((((((((between 0 0 i
    || (between 1 1 i && (eqb kind 1 || eqb kind 6)))
    || between 2 3 i)
    || (between 4 7 i && eqb kind 4))
    || between 8 11 i)
    || (between 12 15 i && (eqb kind 1 || eqb kind 5)))
    || (between 16 19 i && (((eqb kind 1 || eqb kind 2) || eqb kind 3) || eqb kind 6)))
    || (between 20 23 i && (eqb kind 1 || eqb kind 2)))
    || (between 24 27 i && eqb kind 1))
    || (between 28 55 i && eqb kind 5))

-- "Unused bytes must be zero": byte i of a record of this kind
abbrev pub byte_fine : ℕ → ℕ → ℕ → Bool
byte_fine kind i byte = byte_used kind i || eqb byte 0

-- and of every byte of the record
abbrev pub unused_zero : ℕ → List ℕ → Bool
unused_zero kind p = list_all (λ field. byte_fine kind field.0 field.1) (enumerate_from 0 p)
