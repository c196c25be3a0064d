-- A session without drift, for one parameter of any room: blocks of up to 4,096 samples, each from the value that the one before it left. Frequencies are sent to 2 ^ -12 or more, and
-- widths from 2 ^ -11 to 1 - 2 ^ -12. Then no block needs the guard's test. Assumes nothing.
use mathlib.Core.Path.{◌≡◌, refl}
use mathlib.Core.Bool.{Bool, true}
use mathlib.Core.List.{List, [], ◌∷◌}
use Prim.Native.Nat.{ℕ, zero, suc, ◌*◌, ◌≤◌}
use native.Mathlib.Nat.{le_refl, zero-lt-suc}
use native.Mathlib.Omega.{arith}
use lib.Dec.{T}
use lib.Ieee.{Float, binary32, lt, le, neg, fits, of_bits}
use lib.Ieee.Fits.{add-fits}
use Rattle.floats.specs.F32.{f32, zero32, one32, half32, eight32, max_frequency, top_step, top_string_step}
use Rattle.floats.proofs.Bools.{and_both}
use Rattle.floats.proofs.At.{At}
use Rattle.floats.proofs.Order.{le_trans, lt→le}
use Rattle.floats.proofs.Ranges.{passed_le, passes_le}
use Rattle.floats.proofs.Ticks.{tick, one_at, top_step_at, top_string_step_at}
use Rattle.parameter_interpolator.specs.declared.ParameterInterpolator.{ParameterInterpolator}
use Rattle.parameter_interpolator.specs.Interpolator.{new_interpolator}
use Rattle.parameter_interpolator.proofs.Glide.{step_of}
use Rattle.ranges.specs.Ranges.{within, phase_in, frequency_in, unit_in, waveshape_in, modulation_or_gain_in}
use Rattle.ranges.proofs.TargetRanges.{least_target, least_target_at}
use Rattle.rooms.specs.declared.Room.{Room}
use Rattle.rooms.specs.declared.Room.TheVariants.{Unused, Frequency, StringFrequency, PulseWidth, Waveshape, ModulationOrGain}
use Rattle.rooms.specs.Rooms.{in_room}
use Rattle.rooms.specs.Safe.{widest}
use Rattle.rooms.proofs.Nowhere.{StaysIn}
use Rattle.rooms.proofs.Kept.{twelve32, Presumed, Near, Kept, kept}

-- 2 ^ -12
abbrev pub lowest : Float
lowest = f32 0x3980_0000

-- 2 ^ -11
abbrev pub narrowest : Float
narrowest = f32 0x3a00_0000

lowest_at : At lowest (4096 * tick)
unfolding tick fits of_bits
lowest_at = record { fit = tt; reads = refl }

narrowest_at : At narrowest (8192 * tick)
unfolding tick fits of_bits
narrowest_at = record { fit = tt; reads = refl }

-- where a session may start: in the state's range, a width below 1
abbrev pub start_in : Room → Float → Bool
start_in Unused v = true
start_in Frequency v = frequency_in v
start_in StringFrequency v = within zero32 top_string_step v
start_in PulseWidth v = phase_in v
start_in Waveshape v = waveshape_in v
start_in ModulationOrGain v = modulation_or_gain_in v

-- and where a block may be sent
abbrev pub sent_in : Room → Float → Bool
sent_in Unused t = true
sent_in Frequency t = within lowest max_frequency t
sent_in StringFrequency t = within lowest half32 t
sent_in PulseWidth t = within narrowest widest t
sent_in Waveshape t = unit_in t
sent_in ModulationOrGain t = within (neg eight32) twelve32 t

-- ---- one block
module _ (v t : Float) (fv : T (fits binary32 v)) (ft : T (fits binary32 t)) where
  near : {low top : Float} {a b : ℕ} → At low a → At top b → b ≤ 4093 * a → le v top ≡ true → le low t ≡ true → Near v t
  near {a = a} {b = b} L H o h l m n X Y = go (passed_le X H h) (passed_le L Y l)
    where
      go : m ≤ b → a ≤ n → m ≤ 4093 * n
      go i j = omega arith

  frequency : (high : Float) {top : Float} {b : ℕ} → At top b → b ≤ 16764928 * tick → within zero32 top v ≡ true → within lowest high t ≡ true → (within least_target high t ≡ true) × Near v t
  frequency high {top} H o h l =
      let i = and_both (le zero32 v) (le v top) h in
      let j = and_both (le lowest t) (le t high) l in
      (rw (le_trans least_target lowest t (passes_le least_target_at lowest_at (omega arith)) j.0, j.1), near lowest_at H (omega arith) i.1 j.0)

  ordinary : (r : Room) → start_in r v ≡ true → sent_in r t ≡ true → Presumed r v t × Kept r v t
  ordinary Unused h l = (record { value_fits = fv; target_fits = ft; value = refl; target = refl }, tt)
  ordinary Frequency h l = let f = frequency max_frequency top_step_at (omega arith) h l in (record { value_fits = fv; target_fits = ft; value = h; target = f.0 }, f.1)
  ordinary StringFrequency h l = let f = frequency half32 top_string_step_at (omega arith) h l in (record { value_fits = fv; target_fits = ft; value = h; target = f.0 }, f.1)
  ordinary PulseWidth h l =
      let i = and_both (le zero32 v) (lt v one32) h in
      let j = and_both (le narrowest t) (le t widest) l in
      let most = lt→le v one32 i.1 in (
        record { value_fits = fv; target_fits = ft; value = rw (i.0, most); target = le_trans least_target narrowest t (passes_le least_target_at narrowest_at (omega arith)) j.0 },
        (i.1, j.1, near narrowest_at one_at (omega arith) most j.0),
      )
  ordinary Waveshape h l = (record { value_fits = fv; target_fits = ft; value = h; target = l }, tt)
  ordinary ModulationOrGain h l = (record { value_fits = fv; target_fits = ft; value = h; target = l }, tt)

-- a step in its room is a value to start from
room_start : (r : Room) (x : Float) → in_room r x ≡ true → start_in r x ≡ true
room_start Unused x h = refl
room_start Frequency x h = let p = and_both (lt zero32 x) (le x top_step) h in rw (lt→le zero32 x p.0, p.1)
room_start StringFrequency x h = let p = and_both (lt zero32 x) (le x top_string_step) h in rw (lt→le zero32 x p.0, p.1)
room_start PulseWidth x h = let p = and_both (lt zero32 x) (lt x one32) h in rw (lt→le zero32 x p.0, p.1)
room_start Waveshape x h = h
room_start ModulationOrGain x h = h

-- ---- a session
pub record Block : Type 0 where
  pub target : Float
  pub length : ℕ

abbrev pub course_of : Block → Float → ParameterInterpolator
course_of b v = new_interpolator v b.target b.length

-- what a block leaves: its last step, or, where it is empty, the value
abbrev pub left_by : Block → Float → Float
left_by b v = step_of b.length (course_of b v)

pub record Ordinary (r : Room) (b : Block) : Type 0 where
  pub target_fits : T (fits binary32 b.target)
  pub short : b.length ≤ 4096
  pub sent : sent_in r b.target ≡ true

abbrev pub AllOrdinary : Room → List Block → Type 0
AllOrdinary r [] = Unit {0}
AllOrdinary r (b ∷ bs) = Ordinary r b × AllOrdinary r bs

abbrev pub NoDrift : Room → Float → List Block → Type 0
NoDrift r v [] = Unit {0}
NoDrift r v (b ∷ bs) = StaysIn b.length r (course_of b v) × NoDrift r (left_by b v) bs

step_fits : (k : ℕ) (p : ParameterInterpolator) → T (fits binary32 p.value) → T (fits binary32 (step_of k p))
step_fits zero p f = f
step_fits (suc k) p f = add-fits binary32 (step_of k p) p.increment

left_start : (n : ℕ) (r : Room) (p : ParameterInterpolator) → start_in r p.value ≡ true → StaysIn n r p → start_in r (step_of n p) ≡ true
left_start zero r p h s = h
left_start (suc n) r p h s = room_start r (step_of (suc n) p) (s (suc n) (zero-lt-suc n) (le_refl (suc n)))

pub no_drift : (r : Room) (v : Float) (bs : List Block) → T (fits binary32 v) → start_in r v ≡ true → AllOrdinary r bs → NoDrift r v bs
no_drift r v [] f h o = tt
no_drift r v (b ∷ bs) f h o =
    let p = ordinary v b.target f o.0.target_fits r h o.0.sent in
    let s = kept b.length r v b.target o.0.short p.0 p.1 in
    (s, no_drift r (left_by b v) bs (step_fits b.length (course_of b v) f) (left_start b.length r (course_of b v) h s) o.1)
