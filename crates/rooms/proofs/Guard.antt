-- The guard: where every parameter of a block of up to 4,096 samples passes its test, no step leaves its room, and the walk finds nothing. Assumes nothing.
use mathlib.Core.Path.{◌≡◌, refl, ap}
use mathlib.Core.Bool.{Bool, true, ◌&&◌}
use mathlib.Core.List.{List, [], ◌∷◌, ◌++◌}
use Prim.Native.Nat.{ℕ, suc, ◌*◌, ◌^◌, ◌≤◌, ◌<◌}
use native.Mathlib.Nat.{lt_of_le_of_lt}
use native.Mathlib.Omega.{arith}
use lib.Dec.{lit<}
use lib.ListN.{length}
use lib.Ieee.{Float, lt, le, fits, of_bits}
use Rattle.floats.specs.F32.{◌⊗◌, one32, half32, max_frequency}
use Rattle.floats.proofs.Bools.{and_both}
use Rattle.floats.proofs.At.{At, huge}
use Rattle.floats.proofs.PowerOfTwo.{mul_pow}
use Rattle.floats.proofs.Ranges.{passed_le}
use Rattle.floats.proofs.Ticks.{tick, cycle, half_at, max_frequency_at}
use Rattle.parameter_interpolator.specs.declared.ParameterInterpolator.{ParameterInterpolator}
use Rattle.parameter_interpolator.specs.Interpolator.{new_interpolator}
use Rattle.ranges.specs.Ranges.{all_of}
use Rattle.ranges.proofs.AllOf.{Each, each_of}
use Rattle.ranges.proofs.TargetRanges.{least_target}
use Rattle.rooms.specs.declared.Room.{Room}
use Rattle.rooms.specs.declared.Room.TheVariants.{Unused, Frequency, StringFrequency, PulseWidth, Waveshape, ModulationOrGain}
use Rattle.std.specs.Prelude.{None}
use Rattle.rooms.specs.declared.Glides.{Glides}
use Rattle.rooms.specs.Safe.{ratio, widest, safe_in}
use Rattle.rooms.specs.Steps.{steps_of, first_outside}
use Rattle.rooms.proofs.Nowhere.{AllStayIn, nowhere}
use Rattle.rooms.proofs.Kept.{Presumed, Near, Kept, widest_at, kept}

-- ---- one parameter
ratio_at : At ratio (2 ^ 11 * 2 ^ 149)
unfolding fits of_bits
ratio_at = record { fit = tt; reads = refl }

finite : 16777216 * tick * 2048 < huge
unfolding tick
finite = lit< tt

-- a target of at most 1 is multiplied exactly
near : {v t y : Float} {c : ℕ} → At y c → c ≤ cycle → le t y ≡ true → le v (t ⊗ ratio) ≡ true → Near v t
near {c = c} Y o h l a b A B = go (passed_le A (mul_pow 11 B ratio_at (lt_of_le_of_lt (most b tick (passed_le B Y h) o) finite)) l)
  where
    most : (b t : ℕ) → b ≤ c → c ≤ 16777216 * t → b * 2 ^ 11 ≤ 16777216 * t * 2048
    most b t i j = omega arith

    go : a ≤ b * 2 ^ 11 → a ≤ 4093 * b
    go i = omega arith

pub safe_kept : (r : Room) (v t : Float) → Presumed r v t → safe_in r v t ≡ true → Kept r v t
safe_kept Unused v t p h = tt
safe_kept Frequency v t p h = near max_frequency_at (omega arith) (and_both (le least_target t) (le t max_frequency) p.target).1 h
safe_kept StringFrequency v t p h = near half_at (omega arith) (and_both (le least_target t) (le t half32) p.target).1 h
safe_kept PulseWidth v t p h =
    let i = and_both (lt v one32 && le v (t ⊗ ratio)) (le t widest) h in
    let j = and_both (lt v one32) (le v (t ⊗ ratio)) i.0 in
    (j.0, i.1, near widest_at (omega arith) i.1 j.1)
safe_kept Waveshape v t p h = tt
safe_kept ModulationOrGain v t p h = tt

-- ---- those of a block, a room, a value and a target for each
pub record Course : Type 0 where
  pub room : Room
  pub value : Float
  pub target : Float

abbrev pub rooms_of : List Course → List Room
rooms_of [] = []
rooms_of (c ∷ cs) = c.room ∷ rooms_of cs

-- on their way over n samples
abbrev pub starts_of : ℕ → List Course → List ParameterInterpolator
starts_of n [] = []
starts_of n (c ∷ cs) = new_interpolator c.value c.target n ∷ starts_of n cs

pub starts_rooms : (n : ℕ) (cs : List Course) → length (starts_of n cs) ≡ length (rooms_of cs)
starts_rooms n [] = refl
starts_rooms n (c ∷ cs) = ap suc (starts_rooms n cs)

-- their tests
abbrev pub tests_of : List Course → List Bool
tests_of [] = []
tests_of (c ∷ cs) = safe_in c.room c.value c.target ∷ tests_of cs

-- both, with what stands in the places behind them
abbrev pub glides_of : ℕ → List Course → List ParameterInterpolator → Glides
glides_of n cs others = record { interpolators = starts_of n cs ++ others; safe = all_of (tests_of cs) }

abbrev pub AllPresumed : List Course → Type 0
AllPresumed [] = Unit {0}
AllPresumed (c ∷ cs) = Presumed c.room c.value c.target × AllPresumed cs

all_stay : (n : ℕ) → n ≤ 4096 → (cs : List Course) → AllPresumed cs → Each (tests_of cs) → AllStayIn n (rooms_of cs) (starts_of n cs)
all_stay n h [] p s = tt
all_stay n h (c ∷ cs) p s = (kept n c.room c.value c.target h p.0 (safe_kept c.room c.value c.target p.0 s.0), all_stay n h cs p.1 s.1)

pub safe_nowhere : (n : ℕ) → n ≤ 4096 → (cs : List Course) → AllPresumed cs → all_of (tests_of cs) ≡ true → first_outside (rooms_of cs) (steps_of n (starts_of n cs)) ≡ None
safe_nowhere n h cs p s = nowhere n (rooms_of cs) (starts_of n cs) (all_stay n h cs p (each_of (tests_of cs) s))
