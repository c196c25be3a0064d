-- The classic oscillator's parameters are as the guard presumes them: of a valid state, and of parameters that passed their test, the targets of frequency and width are 2 ^ -24 or more.
-- Assumes nothing.
use Rattle.std.proofs.Common.{◌≡◌, ℕ, ◌<◌, ◌≤◌, Bool, true, false, cond, T, [], ◌∷◌, refl, zero-le, lt_of_lt_of_le, arith}
use lib.Ieee.{Float, nan, inf, fin, binary32, lt, le, fits}
use lib.Ieee.Fits.{cond-fits}
use Rattle.floats.specs.F32.{one32, zero32, min_frequency, max_frequency}
use Rattle.floats.specs.Helpers.{abs_of, at_least}
use Rattle.floats.proofs.Bools.{and_both}
use Rattle.floats.proofs.At.{At, Reads, size_of}
use Rattle.floats.proofs.Order.{le_trans, numbers}
use Rattle.floats.proofs.Ranges.{at_le, passes_le, passed_le}
use Rattle.floats.proofs.Ticks.{tick, tick_pos, zero_at, one_at, max_frequency_at}
use Rattle.parameter_interpolator.specs.Interpolator.{new_interpolator}
use Rattle.ranges.specs.Ranges.{within, parameter_frequency_in, unit_in}
use Rattle.ranges.proofs.AllOf.{each_of}
use Rattle.ranges.proofs.TargetRanges.{least_target, least_target_at, least_min, least_max, min_at, clamp_in, width_clamp_in, width_clamp_fits}
use Rattle.rooms.specs.declared.Room.TheVariants.{Frequency, PulseWidth}
use Rattle.rooms.proofs.Guard.{Course, rooms_of, starts_of, AllPresumed}
use Rattle.classic.specs.declared.State.{State}
use Rattle.classic.specs.declared.OscillatorShape.{OscillatorShape}
use Rattle.classic.specs.Shapes.{steps_width}
use Rattle.classic.specs.Targets.{frequency_target, width_target}
use Rattle.classic.specs.Block.{parameters_in, interpolators, rooms}
use Rattle.classic.specs.Private.{Valid, courses}

-- ---- the frequency's target
frequency_in_lem : (f : Float) → parameter_frequency_in f ≡ true → within least_target max_frequency (frequency_target f) ≡ true
frequency_in_lem f h = clamp_in f min_frequency max_frequency least_target max_frequency (numbers f one32 (and_both (le min_frequency f) (le f one32) h).1).0 least_min least_max (passes_le max_frequency_at max_frequency_at (omega arith))

frequency_fits : (f : Float) → T (fits binary32 f) → T (fits binary32 (frequency_target f))
frequency_fits f t =
    cond-fits binary32 (lt max_frequency (at_least f min_frequency)) max_frequency (at_least f min_frequency) max_frequency_at.fit
    (cond-fits binary32 (lt f min_frequency) min_frequency f min_at.fit t)

-- ---- the width's target
-- what lies above 0 is its own absolute value
abs_itself : (f : Float) {n : ℕ} → Reads f n → 0 < n → abs_of f ≡ f
abs_itself nan r h = absurd r
abs_itself (inf s) r h = absurd r
abs_itself (fin true m e) r h = absurd (omega (arith, r.1))
abs_itself (fin false m e) r h = refl

-- of a frequency's target
module _ (f : Float) (t : T (fits binary32 f)) (h : within least_target max_frequency f ≡ true) where
  bounds : (le least_target f ≡ true) × (le f max_frequency ≡ true)
  bounds = and_both (le least_target f) (le f max_frequency) h

  F : At f (size_of f)
  F = at_le t (le_trans zero32 least_target f (passes_le zero_at least_target_at zero-le) bounds.0) bounds.1 max_frequency_at

  least : tick ≤ size_of f
  least = passed_le least_target_at F bounds.0

  itself : abs_of f ≡ f
  itself = abs_itself f F.reads (lt_of_lt_of_le tick_pos least)

  width_least : (pw : Float) → unit_in pw ≡ true → le least_target (width_target f pw) ≡ true
  width_least pw u =
      let l = least in
      rw itself (and_both _ _ (width_clamp_in pw F least_target_at one_at (passed_le F max_frequency_at bounds.1) (omega arith) (omega arith) (omega arith) u)).0

width_fits : (f pw : Float) → T (fits binary32 pw) → T (fits binary32 (width_target f pw))
width_fits f pw t = width_clamp_fits (abs_of f) pw t

-- ---- both
module _ (s : State) (frequency pw : Float) where
  abbrev opening : Course
  opening = record { room = PulseWidth; value = s.pw; target = width_target (frequency_target frequency) pw }

  abbrev moving : Course
  moving = record { room = Frequency; value = s.frequency; target = frequency_target frequency }

  pub course_rooms : (shape : OscillatorShape) → rooms shape ≡ rooms_of (courses s frequency pw shape)
  course_rooms shape = go (steps_width shape)
    where
      go : (stepped : Bool) → Frequency ∷ cond stepped (PulseWidth ∷ []) [] ≡ rooms_of (moving ∷ cond stepped (opening ∷ []) [])
      go true = refl
      go false = refl

  -- and their interpolators are the definition's
  pub course_starts : (n : ℕ) (shape : OscillatorShape) → starts_of n (courses s frequency pw shape) ≡ interpolators s frequency pw shape n
  course_starts n shape = go (steps_width shape)
    where
      go : (stepped : Bool) → starts_of n (moving ∷ cond stepped (opening ∷ []) [])
          ≡ new_interpolator s.frequency (frequency_target frequency) n ∷ cond stepped (new_interpolator s.pw (width_target (frequency_target frequency) pw) n ∷ []) []
      go true = refl
      go false = refl

  module _ (s-frequency : T (fits binary32 s.frequency)) (s_pw : T (fits binary32 s.pw)) (f : T (fits binary32 frequency)) (w : T (fits binary32 pw)) where
    pub presumed : (shape : OscillatorShape) → Valid s → parameters_in frequency pw ≡ true → AllPresumed (courses s frequency pw shape)
    unfolding parameters_in
    presumed shape valid h =
        let e = each_of _ h in
        let g = frequency_in_lem frequency e.0 in
        (record { value_fits = s-frequency; target_fits = frequency_fits frequency f; value = valid.frequency; target = g }, go (steps_width shape) (width_least (frequency_target frequency) (frequency_fits frequency f) g pw e.1.0))
      where
        go : (stepped : Bool) → le least_target (width_target (frequency_target frequency) pw) ≡ true → AllPresumed (cond stepped (opening ∷ []) [])
        go true l = (record { value_fits = s_pw; target_fits = width_fits (frequency_target frequency) pw w; value = valid.pw; target = l }, tt)
        go false l = tt
