-- A sample as a 16-bit number. 02 (ii): "A sample is clipped to -1 and 1, and its exact value times 32,767 goes to the nearest whole number, ties to
-- even, as signed 16-bit. State and prove this over whole numbers." The one unit is 2 ^ -149, of which every finite sample is a whole number. Assumes nothing.
use Rattle.std.specs.Prelude.{cond, ℕ, suc, ◌+◌, ◌*◌, ◌-◌, ◌/◌, ◌%◌, ◌^◌, min, leb, eqb, ℤ, pos, negsuc, neg_ℤ, nat_abs, ◌-ℤ◌, ◌*ℤ◌, Float}
use Rattle.std.specs.Float.{nan, inf, fin}
use Rattle.floats.specs.Units.{units}

-- 1 in units
abbrev pub one : ℕ
one = 2 ^ 149

-- "clipped to -1 and 1"
abbrev pub clipped : ℤ → ℤ
clipped (pos n) = pos (min n one)
clipped (negsuc n) = neg_ℤ (pos (min (suc n) one))

-- A sample's value in units, clipped. An infinity lies beyond every number. A NaN has no value: it is refused, and 0 only stands for it.
unfoldable pub value_of : Float → ℤ
value_of nan = pos 0
value_of (inf s) = cond s (neg_ℤ (pos one)) (pos one)
value_of (fin s m e) = clipped (units (fin s m e))

-- "the nearest whole number, ties to even": a / b, by its whole part and what is left, doubled, beside b
unfoldable pub rounded : ℕ → ℕ → ℕ
rounded a b =
    let whole = a / b in
    let left = a % b * 2 in
    cond (eqb left b) (whole + whole % 2) (cond (leb left b) whole (whole + 1))

-- "times 32,767": of so many units
unfoldable pub nearest_of : ℤ → ℤ
nearest_of (pos n) = pos (rounded (n * 32767) one)
nearest_of (negsuc n) = neg_ℤ (pos (rounded (suc n * 32767) one))

-- the number of a sample
unfoldable pub pcm_of : Float → ℤ
pcm_of x = nearest_of (value_of x)

-- "as signed 16-bit": a negative number -n is held as 65,536 - n
abbrev pub held_as : ℤ → ℕ
held_as (pos n) = n
held_as (negsuc n) = 65535 - n

-- ---- in the words of a promise
-- how far a whole number is from 32,767 times a value, both in units
unfoldable pub off : ℤ → ℤ → ℕ
off k value = nat_abs (k *ℤ pos one -ℤ value *ℤ pos 32767)
