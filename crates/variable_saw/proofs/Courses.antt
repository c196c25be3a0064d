-- The variable saw's parameters are as the guard presumes them: of a valid state, and of parameters that passed their test, the targets of frequency and width are 2 ^ -24 or more.
-- Assumes nothing.
use mathlib.Core.Path.{◌≡◌}
use mathlib.Core.Bool.{true}
use lib.Dec.{T}
use lib.Ieee.{Float, binary32, fits}
use Rattle.ranges.specs.Targets.{clipped}
use Rattle.ranges.proofs.AllOf.{each_of}
use Rattle.ranges.proofs.TargetRanges.{clipped_fits, frequency_target_lem, width_fits, width_target_lem}
use Rattle.rooms.proofs.Guard.{AllPresumed}
use Rattle.variable_saw.specs.declared.State.{State}
use Rattle.variable_saw.specs.Block.{parameters_in}
use Rattle.variable_saw.specs.Private.{Valid, courses}

module _ (s : State) (frequency pw waveshape : Float) (s-frequency : T (fits binary32 s.frequency)) (s_pw : T (fits binary32 s.pw)) (s_waveshape : T (fits binary32 s.waveshape))
    (f : T (fits binary32 frequency)) (w : T (fits binary32 pw)) (x : T (fits binary32 waveshape)) where
  pub presumed : Valid s → parameters_in frequency pw waveshape ≡ true → AllPresumed (courses s frequency pw waveshape)
  unfolding parameters_in
  presumed valid h =
      let e = each_of _ h in
      let g = frequency_target_lem frequency e.0 in (
        record { value_fits = s-frequency; target_fits = clipped_fits frequency f; value = valid.frequency; target = g },
        (
          record {
            value_fits = s_pw;
            target_fits = width_fits (clipped frequency) pw w;
            value = valid.pw;
            target = width_target_lem (clipped frequency) pw (clipped_fits frequency f) g e.1.0;
          },
          (record { value_fits = s_waveshape; target_fits = x; value = valid.waveshape; target = e.1.1.0 }, tt),
        ),
      )
