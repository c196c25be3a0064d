-- Where the gains lie that a registration gives the four saws: from -8 to 12, for entries from 0 to 1 and a gain from 0 to 4, whatever rounding does. Assumes nothing.
use Rattle.std.proofs.Common.{◌≡◌, ℕ, zero, suc, ◌+◌, ◌-◌, ◌*◌, ◌^◌, ◌<◌, ◌≤◌, true, ltb, List, [], ◌∷◌, length, get_or, refl, zero-le, le_trans, le_of_eq, lt_of_le_of_lt, zero-lt-suc, mul-le-mul, mul-one, arith, pow_pos}
use lib.Ieee.{Float, nan, sub, fits, of_bits}
use Rattle.floats.specs.F32.{f32, ◌⊕◌, ◌⊖◌, ◌⊗◌, zero32, two32, four32}
use Rattle.floats.proofs.Bools.{and_both, cond_both}
use Rattle.floats.proofs.Rounding.{rnd, rnd_up, rnd_mono}
use Rattle.floats.proofs.Signed.{Is, neg_is, add_is, mul_is}
use Rattle.floats.proofs.At.{At, is_at, at_rnd, at_huge}
use Rattle.floats.proofs.Ticks.{tick, cycle, cycle_is, zero_at, one_at, two_at, eight_at}
use Rattle.floats.proofs.Ranges.{UpTo, upto_of, mul_le_left}
use Rattle.parameter_interpolator.proofs.EitherSign.{From}
use Rattle.ranges.specs.Ranges.{unit_in}
use Rattle.rooms.specs.declared.Room.TheVariants.{ModulationOrGain}
use Rattle.rooms.proofs.Kept.{target_in, twelve_at, minus_8, of_from}
use Rattle.string_synth.specs.Targets.{placed_at}
use Rattle.string_synth.specs.Block.{registration_in}
use Rattle.string_synth.specs.Private.{Entries32}

-- ---- the entries of a shifted registration
entry_in : (xs : List Float) (i : ℕ) → registration_in xs ≡ true → i < length xs → unit_in (get_or xs i nan) ≡ true
entry_in [] i h l = absurd (omega arith)
entry_in (x ∷ xs) zero h l = (and_both (unit_in x) (registration_in xs) h).0
entry_in (x ∷ xs) (suc i) h l = entry_in xs i (and_both (unit_in x) (registration_in xs) h).1 (omega arith)

-- a place that the shift leaves empty is 0.0
pub placed_in : (xs : List Float) (shift i : ℕ) → Entries32 xs → registration_in xs ≡ true → i < length xs → UpTo (placed_at xs shift i) cycle
placed_in xs shift i t h l =
    let u = and_both _ _ (entry_in xs (i - shift) h (omega arith)) in
    cond_both (λ (x : Float). UpTo x cycle) (ltb i shift) zero32 (get_or xs (i - shift) nan) (record { n = 0; at = zero_at; most = zero-le }) (upto_of (t (i - shift)) u.0 u.1 one_at)

-- ---- sums of them
-- 3.0
three_at : At (f32 0x4040_0000) (3 * cycle)
unfolding tick fits of_bits
three_at = record { fit = tt; reads = refl }

-- u - w units, each number within its bound
from : {x : Float} {u w L H : ℕ} → Is x u w → u ≤ H → w ≤ L → From x L H
from {u = u} {w = w} i h l = record { u = u; w = w; is = i; high = omega arith; low = omega arith }

-- a sum keeps bounds that binary32 holds
sum_in : {x y low high : Float} {p q r t L H : ℕ} → Is x p q → Is y r t → At low L → At high H → p + r ≤ H + (q + t) → q + t ≤ L + (p + r) → From (x ⊕ y) L H
sum_in {p = p} {q = q} {r = r} {t = t} X Y A C h l =
    let u = rnd_up {n = p + r - (q + t)} (at_rnd C) (omega arith) in
    let w = rnd_up {n = q + t - (p + r)} (at_rnd A) (omega arith) in
    from (add_is X Y (lt_of_le_of_lt u (at_huge C)) (lt_of_le_of_lt w (at_huge A))) u w

-- one entry, one less another, and two of a third with either
pub alone : {x : Float} → UpTo x cycle → From x cycle cycle
alone X = from (is_at X.at) X.most zero-le

pub difference : {x y : Float} → UpTo x cycle → UpTo y cycle → From (x ⊖ y) cycle cycle
unfolding sub
difference X Y = sum_in (is_at X.at) (neg_is (is_at Y.at)) one_at one_at (omega (arith, X.most)) (omega (arith, Y.most))

pub plus_twice : {x z : Float} → From x cycle cycle → UpTo z cycle → From (x ⊕ two32 ⊗ z) cycle (3 * cycle)
plus_twice X Z =
    let y = mul_le_left two_at Z.at Z.most in
    sum_in X.is (is_at y.at) one_at three_at (omega (arith, X.high, y.most)) (omega (arith, X.low))

-- ---- times the gain
pub four_at : At four32 (4 * cycle)
unfolding tick fits of_bits
four_at = record { fit = tt; reads = refl }

-- a product keeps such a bound too
product : {y : Float} {B : ℕ} (n : ℕ) → At y B → n ≤ B * 2 ^ 149 → rnd n (2 ^ 149) ≤ B
product {B = B} n Y h = le_trans (rnd_mono n (2 ^ 149) B 1 (pow_pos 149) (zero-lt-suc 0) (le_trans (le_of_eq (mul-one n)) h)) (le_of_eq (at_rnd Y))

pub gain_in : {x g : Float} {H : ℕ} → From x cycle H → H ≤ 3 * cycle → UpTo g (4 * cycle) → target_in ModulationOrGain (x ⊗ g) ≡ true
gain_in X h G =
    let p : X.u - X.w ≤ 3 * cycle = omega (arith, X.high) in
    let q : X.w - X.u ≤ cycle = omega (arith, X.low) in
    let u = product ((X.u - X.w) * G.n) twelve_at (rw (← cycle_is) (le_trans (mul-le-mul p G.most) (high tick))) in
    let w = product ((X.w - X.u) * G.n) eight_at (rw (← cycle_is) (le_trans (mul-le-mul q G.most) (low tick))) in
    of_from minus_8 (is_at twelve_at) (from (mul_is X.is (is_at G.at) (lt_of_le_of_lt u (at_huge twelve_at)) (lt_of_le_of_lt w (at_huge eight_at))) u w)
  where
    high : (t : ℕ) → 3 * (16777216 * t) * (4 * (16777216 * t)) ≤ 12 * (16777216 * t) * (16777216 * t)
    high t = omega arith

    low : (t : ℕ) → 16777216 * t * (4 * (16777216 * t)) ≤ 8 * (16777216 * t) * (16777216 * t)
    low t = omega arith
