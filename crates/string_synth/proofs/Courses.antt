-- The string synth's parameters are as the guard presumes them: of a valid state, and of parameters that passed their tests, the frequency's target lies from 2 ^ -24 to 0.5 and each gain's from
-- -8 to 12. Assumes nothing.
use Rattle.std.proofs.Common.{◌≡◌, ℕ, ◌*◌, ◌<◌, ◌≤◌, true, false, T, List, [], ◌∷◌, length, arith, lit<}
use lib.Ieee.{Float, binary32, lt, fits}
use lib.Ieee.Fits.{mul-fits}
use Rattle.floats.specs.F32.{◌⊗◌, half32, eight32}
use Rattle.floats.proofs.Bools.{and_both}
use Rattle.floats.proofs.At.{size_of}
use Rattle.floats.proofs.Ticks.{cycle, half_at}
use Rattle.floats.proofs.Ranges.{UpTo, upto_of, failed_lt, passes_le}
use Rattle.parameter_interpolator.proofs.EitherSign.{From}
use Rattle.ranges.specs.Ranges.{parameter_frequency_in, modulation_or_gain_in}
use Rattle.ranges.proofs.AllOf.{each_of}
use Rattle.ranges.proofs.TargetRanges.{least_target_at, parameter_at}
use Rattle.rooms.specs.declared.Room.TheVariants.{StringFrequency, ModulationOrGain}
use Rattle.rooms.proofs.Kept.{Presumed, target_in}
use Rattle.rooms.proofs.Guard.{AllPresumed}
use Rattle.block.specs.Account.{AllFit}
use Rattle.string_synth.specs.declared.State.{State}
use Rattle.string_synth.specs.declared.sample.Saws.{Saws}
use Rattle.string_synth.specs.Targets.{lowered, shift_of, placed_at, targets_of}
use Rattle.string_synth.specs.Block.{gains_in, parameters_in}
use Rattle.string_synth.specs.Private.{Valid, Entries32, courses}
use Rattle.string_synth.proofs.Shifts.{loop_ends}
use Rattle.string_synth.proofs.Gains.{placed_in, alone, difference, plus_twice, four_at, gain_in}

-- a frequency of at most 0.5, eight times as high and then halved until it is at most 0.5
frequency_target_lem : (f : Float) → T (fits binary32 f) → parameter_frequency_in f ≡ true → lt half32 f ≡ false
    → T (fits binary32 (lowered (f ⊗ eight32)).frequency) × (target_in StringFrequency (lowered (f ⊗ eight32)).frequency ≡ true)
frequency_target_lem f t h low =
    let F = parameter_at t h in
    let l = loop_ends f (size_of f) F.0 F.2 (failed_lt half_at F.0 low) in
    rw (l.same 1) (l.at.fit, rw (passes_le least_target_at l.at (omega (arith, F.1, l.least)), l.low))

module _ (frequency : Float) (registration : List Float) (gain : Float) (f : T (fits binary32 frequency)) (entries : Entries32 registration) (g : T (fits binary32 gain))
    (seven : length registration ≡ 7) (h : parameters_in frequency registration gain ≡ true) (low : lt half32 frequency ≡ false) where
  entry : (i : ℕ) → i < 7 → UpTo (placed_at registration (shift_of frequency) i) cycle
  unfolding parameters_in
  entry i l = placed_in registration (shift_of frequency) i entries (each_of _ h).1.0 (omega arith)

  loud : UpTo gain (4 * cycle)
  unfolding parameters_in
  loud = let e = and_both _ _ (each_of _ h).1.1.0 in upto_of g e.0 e.1 four_at

  gain_presumed : {x : Float} {H : ℕ} (v : Float) → T (fits binary32 v) → modulation_or_gain_in v ≡ true → From x cycle H → H ≤ 3 * cycle → Presumed ModulationOrGain v (x ⊗ gain)
  gain_presumed {x} v t i X l = record { value_fits = t; target_fits = mul-fits binary32 x gain; value = i; target = gain_in X l loud }

  pub presumed : (s : State) (to : Saws) → AllFit (s.frequency ∷ s.saw_8_gain ∷ s.saw_4_gain ∷ s.saw_2_gain ∷ s.saw_1_gain ∷ []) → Valid s → to ≡ targets_of frequency registration gain
      → AllPresumed (courses s to)
  unfolding parameters_in gains_in targets_of
  presumed s to fit valid at =
      let t = frequency_target_lem frequency f (each_of _ h).0 low in
      let e = each_of _ valid.gains in
      rw at (
        record { value_fits = fit.0; target_fits = t.0; value = valid.frequency; target = t.1 },
        (
          gain_presumed _ fit.1.0 e.0 (plus_twice (alone (entry 0 (lit< tt))) (entry 1 (lit< tt))) (omega arith),
          (
            gain_presumed _ fit.1.1.0 e.1.0 (plus_twice (difference (entry 2 (lit< tt)) (entry 1 (lit< tt))) (entry 3 (lit< tt))) (omega arith),
            (
              gain_presumed _ fit.1.1.1.0 e.1.1.0 (plus_twice (difference (entry 4 (lit< tt)) (entry 3 (lit< tt))) (entry 5 (lit< tt))) (omega arith),
              (gain_presumed _ fit.1.1.1.1.0 e.1.1.1.0 (difference (entry 6 (lit< tt)) (entry 5 (lit< tt))) (omega arith), tt),
            ),
          ),
        ),
      )
