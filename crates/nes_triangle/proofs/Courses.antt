-- The NES triangle's parameter is as the guard presumes it: of a valid state, and of a frequency that passed its test, the target is 2 ^ -24 or more. Assumes nothing.
use Rattle.std.proofs.Common.{◌≡◌, ℕ, Bool, true, false, cond, T, refl}
use lib.Ieee.{Float, binary32, le, ne, is_nan, fits, of_bits}
use Rattle.floats.specs.F32.{one32, min_frequency, max_frequency}
use Rattle.floats.specs.Helpers.{min_of}
use Rattle.floats.proofs.Bools.{and_both}
use Rattle.floats.proofs.Order.{numbers, le_not_lt, not_le_lt}
use Rattle.ranges.specs.Targets.{clipped}
use Rattle.ranges.proofs.AllOf.{each_of}
use Rattle.ranges.proofs.TargetRanges.{least_target, least_max, clipped_fits, frequency_target_lem}
use Rattle.rooms.proofs.Guard.{AllPresumed}
use Rattle.nes_triangle.specs.declared.State.{State}
use Rattle.nes_triangle.specs.Block.{parameters_in}
use Rattle.nes_triangle.specs.Private.{Passed, courses}

max_number : ne max_frequency max_frequency ≡ false
unfolding ne of_bits
max_number = refl

-- of a number, the lesser of it and 0.25 is that number clipped
min_clipped : (f : Float) → is_nan f ≡ false → min_of f max_frequency ≡ clipped f
min_clipped f n = go (le max_frequency f) refl
  where
    go : (o : Bool) → le max_frequency f ≡ o → min_of f max_frequency ≡ cond o max_frequency f
    go true e = rw (le_not_lt f max_frequency e, max_number)
    go false e = rw (not_le_lt max_frequency f (numbers least_target max_frequency least_max).1 n e)

pub presumed : (s : State) (frequency : Float) (bits : ℕ) → T (fits binary32 s.frequency) → T (fits binary32 frequency) → Passed bits s → parameters_in frequency bits ≡ true
    → AllPresumed (courses s frequency)
unfolding parameters_in
presumed s frequency bits v f passed h =
    let e = each_of _ h in
    let same = min_clipped frequency (numbers min_frequency frequency (and_both (le min_frequency frequency) (le frequency one32) e.0).0).1 in
    (record { value_fits = v; target_fits = rw same (clipped_fits frequency f); value = passed.valid.frequency; target = rw same (frequency_target_lem frequency e.0) }, tt)
