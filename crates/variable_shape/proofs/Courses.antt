-- The variable shape's parameters are as the guard presumes them: of a valid state, and of parameters that passed their test, the targets of the frequencies and of the width are
-- 2 ^ -24 or more. Phase modulation is one of them where the phase is put out. Assumes nothing.
use mathlib.Core.Path.{◌≡◌, refl}
use mathlib.Core.Bool.{Bool, true, false, cond}
use mathlib.Core.List.{[], ◌∷◌}
use Prim.Native.Nat.{ℕ}
use lib.Dec.{T}
use lib.Ieee.{Float, binary32, le, neg, fits, of_bits}
use Rattle.floats.specs.F32.{eight32}
use Rattle.floats.proofs.Bools.{and_both}
use Rattle.floats.proofs.Order.{le_trans}
use Rattle.parameter_interpolator.specs.Interpolator.{new_interpolator}
use Rattle.ranges.specs.Ranges.{within, all_of}
use Rattle.ranges.specs.Targets.{clipped}
use Rattle.ranges.proofs.AllOf.{each_of}
use Rattle.ranges.proofs.TargetRanges.{clipped_fits, frequency_target_lem, width_fits, width_target_lem}
use Rattle.rooms.specs.declared.Room.TheVariants.{ModulationOrGain}
use Rattle.rooms.specs.declared.Glides.{Glides}
use Rattle.rooms.proofs.Kept.{twelve32}
use Rattle.rooms.proofs.Guard.{rooms_of, starts_of, glides_of, AllPresumed}
use Rattle.variable_shape.specs.declared.State.{State}
use Rattle.variable_shape.specs.declared.Parameters.{Parameters}
use Rattle.variable_shape.specs.Block.{state_in, parameters_in, interpolators, rooms}
use Rattle.variable_shape.specs.Private.{courses}

-- 8 is no more than 12, which a gain may be sent to
eight_twelve : le eight32 twelve32 ≡ true
unfolding le of_bits
eight_twelve = refl

modulation_target : (x : Float) → within (neg eight32) eight32 x ≡ true → within (neg eight32) twelve32 x ≡ true
modulation_target x h = let p = and_both (le (neg eight32) x) (le x eight32) h in rw (p.0, le_trans x eight32 twelve32 p.1 eight_twelve)

module _ (s : State) (p : Parameters) where
  pub course_rooms : (on : Bool) → rooms on ≡ rooms_of (courses s p on)
  course_rooms true = refl
  course_rooms false = refl

  pub course_starts : (n : ℕ) (on : Bool) → starts_of n (courses s p on) ≡ interpolators s p.master_frequency p.frequency p.pw p.waveshape p.phase_modulation on n
  course_starts n true = refl
  course_starts n false = refl

  -- where phase modulation takes no steps, its interpolator stands in a place that is not used, and its test asks nothing
  pub course_glides : (n : ℕ) (on : Bool) {g : Glides} → g ≡ glides_of n (courses s p true) []
      → g ≡ glides_of n (courses s p on) (cond on [] (new_interpolator s.phase_modulation p.phase_modulation n ∷ []))
  unfolding all_of
  course_glides n true e = e
  course_glides n false e = e

  -- what a call's arguments are: binary32 values
  pub record Fits32 : Type 0 where
    pub s_master : T (fits binary32 s.master_frequency)
    pub s_slave : T (fits binary32 s.slave_frequency)
    pub s_pw : T (fits binary32 s.pw)
    pub s_waveshape : T (fits binary32 s.waveshape)
    pub s_modulation : T (fits binary32 s.phase_modulation)
    pub master : T (fits binary32 p.master_frequency)
    pub slave : T (fits binary32 p.frequency)
    pub width : T (fits binary32 p.pw)
    pub shape : T (fits binary32 p.waveshape)
    pub modulation : T (fits binary32 p.phase_modulation)

  pub presumed : (on : Bool) → Fits32 → state_in s ≡ true → parameters_in p.master_frequency p.frequency p.pw p.waveshape p.phase_modulation ≡ true → AllPresumed (courses s p on)
  unfolding state_in parameters_in
  presumed on f h k =
      let v = (each_of _ h).1.1.1 in
      let e = each_of _ k in
      let slave = frequency_target_lem p.frequency e.1.0 in (
        record { value_fits = f.s_master; target_fits = clipped_fits p.master_frequency f.master; value = v.0; target = frequency_target_lem p.master_frequency e.0 },
        (
          record { value_fits = f.s_slave; target_fits = clipped_fits p.frequency f.slave; value = v.1.0; target = slave },
          (
            record {
              value_fits = f.s_pw;
              target_fits = width_fits (clipped p.frequency) p.pw f.width;
              value = v.1.1.0;
              target = width_target_lem (clipped p.frequency) p.pw (clipped_fits p.frequency f.slave) slave e.1.1.0;
            },
            (record { value_fits = f.s_waveshape; target_fits = f.shape; value = v.1.1.1.0; target = e.1.1.1.0 }, last on),
          ),
        ),
      )
    where
      last : (on : Bool) → AllPresumed (cond on (record { room = ModulationOrGain; value = s.phase_modulation; target = p.phase_modulation } ∷ []) [])
      last true = (record { value_fits = f.s_modulation; target_fits = f.modulation; value = (each_of _ h).1.1.1.1.1.1.1.0; target = modulation_target p.phase_modulation (each_of _ k).1.1.1.1.0 }, tt)
      last false = tt
