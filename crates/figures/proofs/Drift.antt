-- 01's Drift figure, computed: 4,096 steps, of which only the last lies outside its room. Assumes nothing.
use mathlib.Core.Path.{◌≡◌, refl}
use mathlib.Core.Bool.{true, false}
use mathlib.Core.List.{List, [], ◌∷◌}
use native.Mathlib.Omega.{arith}
use borrow.Author.Tests.{le-leb}
use lib.ListN.{length}
use lib.Ieee.{Float, add, sub, mul, div, neg, lt, le, of_int, of_bits}
use Rattle.std.specs.Prelude.{Some}
use Rattle.floats.specs.F32.{f32, zero32, half32, min_frequency}
use Rattle.parameter_interpolator.specs.declared.ParameterInterpolator.{ParameterInterpolator}
use Rattle.parameter_interpolator.specs.Interpolator.{new_interpolator}
use Rattle.ranges.specs.Ranges.{all_of}
use Rattle.ranges.specs.Targets.{clipped, clamped_width}
use Rattle.rooms.specs.Steps.{moved, values, steps_of, all_in, first_outside}
use Rattle.block.specs.Calls.{refusal}
use Rattle.block.specs.Oscillator.{drifted}
use Rattle.block.proofs.Ways.{goes}
use Rattle.variable_saw.specs.declared.State.{State}
use Rattle.variable_saw.specs.Block.{state_in, parameters_in, Arguments, interpolators, rooms, variable_saw, render_of}
use Rattle.variable_saw.specs.Figures.{Drifting}

-- Drift: the interpolators to MIN_FREQUENCY, 0.5 and 0 over 4,096 samples. Only the last step of the frequency lies outside its room.
abbrev drifting : List ParameterInterpolator
drifting =
    new_interpolator (f32 0x3e3b_89dd) (clipped min_frequency) 4096
    ∷ new_interpolator half32 (clamped_width (clipped min_frequency) half32) 4096
    ∷ new_interpolator zero32 zero32 4096
    ∷ []

drift_found : first_outside rooms (steps_of 4096 drifting) ≡ Some 4095
unfolding first_outside steps_of all_in moved values add sub mul div neg lt le of_int of_bits
drift_found = refl

drift_parameters : parameters_in min_frequency half32 zero32 ≡ true
unfolding parameters_in all_of lt le of_bits
drift_parameters = refl

pub drift : (s : State) (xs : List Float) → Drifting s → state_in s ≡ true → length xs ≡ 4096 → render_of s min_frequency half32 zero32 xs ≡ refusal 6 4095 s xs
drift s xs d a l =
    let call : Arguments = record { frequency = min_frequency; pw = half32; waveshape = zero32; buffer = xs } in
    let found : first_outside rooms (steps_of (length xs) (interpolators s min_frequency half32 zero32 (length xs))) ≡ Some 4095 = rw (l, d.frequency, d.pw, d.waveshape) drift_found in
    goes variable_saw s call (drifted (le-leb (length xs) 4096 (omega arith), (a, (drift_parameters, tt))) found)

-- there is such a state: `init`'s, but for its frequency
pub drift_start : (s : State) × Drifting s × (state_in s ≡ true)
unfolding state_in all_of lt le neg of_bits
drift_start = (
  record { phase = zero32; next_sample = zero32; previous_pw = half32; high = false; frequency = f32 0x3e3b_89dd; pw = half32; waveshape = zero32 },
  record { frequency = refl; pw = refl; waveshape = refl },
  refl,
)
