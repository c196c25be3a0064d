-- A glide keeps its room: which values and targets are presumed for each room, what is asked of the two together, and that no step of a block of up to 4,096 samples then leaves the room.
-- Assumes nothing.
use mathlib.Core.Path.{◌≡◌, refl, sym, ◌∙◌}
use mathlib.Core.Bool.{Bool, true, ◌&&◌}
use Prim.Native.Nat.{ℕ, ◌+◌, ◌-◌, ◌*◌, ◌≤◌, ◌<◌, zero-le}
use native.Mathlib.Nat.{mul-le-mul_right}
use native.Mathlib.Omega.{arith}
use borrow.Author.Tests.{leb-true, le-leb}
use lib.Dec.{T, lit<, lit≤}
use lib.Ieee.{Float, binary32, lt, le, neg, fits, of_bits}
use Rattle.floats.specs.F32.{f32, zero32, one32, half32, eight32, sixteen32, max_frequency, top_string_step}
use Rattle.floats.proofs.Bools.{and_both}
use Rattle.floats.proofs.Signed.{Is, neg_is, le_is, is_of}
use Rattle.floats.proofs.At.{At, is_at, size_of, at_rnd, at_huge}
use Rattle.floats.proofs.Order.{le_trans, lt→le}
use Rattle.floats.proofs.Ranges.{finite_within, at_le, upto_of, passed_le, passed_lt, passes_le, passes_lt}
use Rattle.floats.proofs.Ticks.{tick, cycle, tick_pos, zero_at, one_at, two_at, half_at, eight_at, sixteen_at, max_frequency_at, top_step_at, top_string_step_at}
use Rattle.parameter_interpolator.specs.Interpolator.{new_interpolator}
use Rattle.parameter_interpolator.proofs.Climb.{Rounds, rounds_any, rounds_power}
use Rattle.parameter_interpolator.proofs.Glide.{step_of}
use Rattle.parameter_interpolator.proofs.AboveZero.{Between, stays_above}
use Rattle.parameter_interpolator.proofs.EitherSign.{Weight, From, stays_in}
use Rattle.ranges.specs.Ranges.{within, frequency_in, unit_in, waveshape_in, modulation_or_gain_in}
use Rattle.ranges.proofs.TargetRanges.{least_target, least_target_at}
use Rattle.rooms.specs.declared.Room.{Room}
use Rattle.rooms.specs.declared.Room.TheVariants.{Unused, Frequency, StringFrequency, PulseWidth, Waveshape, ModulationOrGain}
use Rattle.rooms.specs.Rooms.{in_room}
use Rattle.rooms.specs.Safe.{widest}
use Rattle.rooms.proofs.Nowhere.{StaysIn}

-- ---- what is presumed
-- a value lies in the state's range
abbrev pub value_in : Room → Float → Bool
value_in Unused v = true
value_in Frequency v = frequency_in v
value_in StringFrequency v = within zero32 top_string_step v
value_in PulseWidth v = unit_in v
value_in Waveshape v = waveshape_in v
value_in ModulationOrGain v = modulation_or_gain_in v

-- 12, the most that a gain is sent to
abbrev pub twelve32 : Float
twelve32 = f32 0x4140_0000

-- and a target where the source sends that parameter
abbrev pub target_in : Room → Float → Bool
target_in Unused t = true
target_in Frequency t = within least_target max_frequency t
target_in StringFrequency t = within least_target half32 t
target_in PulseWidth t = le least_target t
target_in Waveshape t = unit_in t
target_in ModulationOrGain t = within (neg eight32) twelve32 t

pub record Presumed (r : Room) (v t : Float) : Type 0 where
  pub value_fits : T (fits binary32 v)
  pub target_fits : T (fits binary32 t)
  pub value : value_in r v ≡ true
  pub target : target_in r t ≡ true

-- ---- what is asked of the two
-- the value is at most 4,093 targets
abbrev pub Near : Float → Float → Type 0
Near v t = (a b : ℕ) → At v a → At t b → a ≤ 4093 * b

abbrev pub Kept : Room → Float → Float → Type 0
Kept Unused v t = Unit {0}
Kept Frequency v t = Near v t
Kept StringFrequency v t = Near v t
Kept PulseWidth v t = (lt v one32 ≡ true) × (le t widest ≡ true) × Near v t
Kept Waveshape v t = Unit {0}
Kept ModulationOrGain v t = Unit {0}

pub widest_at : At widest (16773120 * tick)
unfolding tick fits of_bits
widest_at = record { fit = tt; reads = refl }

pub twelve_at : At twelve32 (12 * cycle)
unfolding tick fits of_bits
twelve_at = record { fit = tt; reads = refl }

-- below 1 a sum is off by half a tick at most
rounds_1 : Rounds cycle (8388608 * tick)
unfolding tick
rounds_1 = rounds_power 124 refl (lit< tt)

-- ---- values of either sign, by the tests of a range from -L to H
module _ {low high x : Float} {L H : ℕ} (A : Is low 0 L) (C : Is high H 0) where
  from_of : T (fits binary32 x) → within low high x ≡ true → From x L H
  from_of f h =
      let p = and_both _ _ h in
      let v = is_of x f (finite_within low x high A C p.0 p.1) in
      record {
        u = v.0;
        w = v.1;
        is = v.2;
        high = omega (arith, leb-true (v.0 + 0) (H + v.1) (sym (le_is v.2 C) ∙ p.1));
        low = omega (arith, leb-true (0 + v.1) (v.0 + L) (sym (le_is A v.2) ∙ p.0));
      }

  pub of_from : From x L H → within low high x ≡ true
  of_from i = rw (le_is A i.is ∙ le-leb (0 + i.w) (i.u + L) (omega (arith, i.low)), le_is i.is C ∙ le-leb (i.u + 0) (H + i.w) (omega (arith, i.high)))

minus_1 : Is (neg one32) 0 cycle
minus_1 = neg_is (is_at one_at)

pub minus_8 : Is (neg eight32) 0 (8 * cycle)
minus_8 = neg_is (is_at eight_at)

minus_16 : Is (neg sixteen32) 0 (16 * cycle)
minus_16 = neg_is (is_at sixteen_at)

weight_2 : Weight tick
unfolding tick
weight_2 = record { j = 125; power = refl; finite = lit< tt }

weight_16 : Weight (8 * tick)
unfolding tick
weight_16 = record { j = 128; power = refl; finite = lit< tt }

many : 4096 ≤ tick
unfolding tick
many = lit≤ tt

-- ---- the k-th step of a block of n
module _ (v t : Float) (n k : ℕ) (fv : T (fits binary32 v)) (ft : T (fits binary32 t)) (short : n ≤ 4096) (begun : 0 < k) (within' : k ≤ n) where
  between : {y : Float} {a c : ℕ} → At v a → At y c → le least_target t ≡ true → le t y ≡ true → Near v t → Between v t a (size_of t) n k
  between {a = a} A Y low high near =
      let B = at_le ft (le_trans zero32 least_target t (passes_le zero_at least_target_at zero-le) low) high Y in
      record { from = A; to = B; short = short; some = passed_le least_target_at B low; ratio = near a (size_of t) A B; begun = begun; within = within' }

  -- a frequency: y is the top of its room, and z of its targets
  frequency_in_lem : {y z : Float} {B c : ℕ} → At y B → At z c → 8388608 ≤ B → 16777216 * c + (2 * c + 4096 * B) ≤ 16777216 * B → within zero32 y v ≡ true → within least_target z t ≡ true → Near v t
      → (lt zero32 (step_of k (new_interpolator v t n)) && le (step_of k (new_interpolator v t n)) y) ≡ true
  frequency_in_lem {B = B} {c = c} Y Z m r h l near =
      let i = and_both _ _ h in
      let j = and_both _ _ l in
      let A = upto_of fv i.0 i.1 Y in
      let g = between A.at Z j.0 j.1 near in
      let x = stays_above g (rounds_any (at_rnd Y) (at_huge Y) m) (omega arith) A.most (room (size_of t) (passed_le g.to Z j.1)) in
      rw (passes_lt zero_at x.at x.some, passes_le x.at Y x.most)
    where
      room : (b : ℕ) → b ≤ c → 16777216 * b + (2 * b + 4096 * B) ≤ 16777216 * B
      room b h = omega arith

  width_in : unit_in v ≡ true → le least_target t ≡ true → Kept PulseWidth v t → in_room PulseWidth (step_of k (new_interpolator v t n)) ≡ true
  width_in h l q =
      let A = upto_of fv (and_both _ _ h).0 (lt→le v one32 q.0) one_at in
      let g = between A.at widest_at l q.1 q.2 in
      let u = passed_lt A.at one_at q.0 in
      let x = stays_above g rounds_1 (omega arith) (below A.n u) (room (size_of t) tick tick_pos (passed_le g.to widest_at q.1)) in
      rw (passes_lt zero_at x.at x.some, passes_lt x.at one_at (omega (arith, x.most, u)))
    where
      below : (a : ℕ) → a < cycle → a ≤ cycle - 1
      below a h = omega arith

      room : (b t : ℕ) → 0 < t → b ≤ 16773120 * t → 16777216 * b + (2 * b + 4096 * (8388608 * t)) ≤ 16777216 * (16777216 * t - 1)
      room b t p h = omega arith

  -- a room of either sign, and its targets: from low to high, and from least to most
  either_in : {low high least most : Float} {d L H l h : ℕ} → Weight d → 4096 ≤ d → Is low 0 L → Is high H 0 → Is least 0 l → Is most h 0 → L ≤ 33554432 * d → H ≤ 33554432 * d
      → h + 4104 * d ≤ H → l + 4104 * d ≤ L → within low high v ≡ true → within least most t ≡ true → within low high (step_of k (new_interpolator v t n)) ≡ true
  either_in {d = d} {L = L} {H = H} {l = l} {h = h} weight fine A C D E i j r s p q =
      let X = from_of A C fv p in
      let Y = from_of D E ft q in
      let e = ends (mul-le-mul_right d short) Y.u Y.w Y.high Y.low in
      of_from A C
      (stays_in
      (record {
        weight = weight;
        from = X.is;
        to = Y.is;
        some = omega arith;
        few = omega arith;
        fine = omega arith;
        from_high = omega (arith, X.high);
        from_low = omega (arith, X.low);
        to_high = omega (arith, e.0);
        to_low = omega (arith, e.1);
      })
      k within' X.high X.low e.0 e.1)
    where
      ends : n * d ≤ 4096 * d → (u w : ℕ) → u ≤ h + w → w ≤ l + u → (u + (n + 8) * d ≤ H + w) × (w + (n + 8) * d ≤ L + u)
      ends m u w a b = omega arith

  pub step_kept : (r : Room) → value_in r v ≡ true → target_in r t ≡ true → Kept r v t → in_room r (step_of k (new_interpolator v t n)) ≡ true
  step_kept Unused h l q = refl
  step_kept Frequency h l q = frequency_in_lem top_step_at max_frequency_at (omega (arith, many)) (omega arith) h l q
  step_kept StringFrequency h l q = frequency_in_lem top_string_step_at half_at (omega (arith, many)) (omega arith) h l q
  step_kept PulseWidth h l q = width_in h l q
  step_kept Waveshape h l q = either_in weight_2 many minus_1 (is_at two_at) (is_at zero_at) (is_at one_at) (omega arith) (omega arith) (omega arith) (omega arith) h l
  step_kept ModulationOrGain h l q = either_in weight_16 (omega (arith, many)) minus_16 (is_at sixteen_at) minus_8 (is_at twelve_at) (omega arith) (omega arith) (omega arith) (omega arith) h l

pub kept : (n : ℕ) (r : Room) (v t : Float) → n ≤ 4096 → Presumed r v t → Kept r v t → StaysIn n r (new_interpolator v t n)
kept n r v t short p q k begun within' = step_kept v t n k p.value_fits p.target_fits short begun within' r p.value p.target q
