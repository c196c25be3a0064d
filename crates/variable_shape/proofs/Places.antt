-- What the variable shape reads at its five places. Phase modulation's is read only where the phase is put out; else the state keeps its own. Assumes nothing.
use mathlib.Core.Path.{◌≡◌}
use mathlib.Core.Bool.{Bool, true, false, cond}
use mathlib.Core.List.{List}
use Prim.Native.Nat.{ℕ, ◌≤◌, ◌<◌}
use native.Mathlib.Omega.{arith}
use lib.Dec.{lit<}
use lib.ListN.{length, get_or}
use lib.Ieee.{Float}
use Rattle.floats.specs.F32.{zero32}
use Rattle.parameter_interpolator.specs.declared.ParameterInterpolator.{ParameterInterpolator}
use Rattle.rooms.specs.Steps.{values}
use Rattle.rooms.proofs.Places.{place}
use Rattle.rooms.proofs.Padding.{used, value_used}
use Rattle.variable_shape.specs.declared.State.{State}
use Rattle.variable_shape.specs.declared.steps.Steps.{Steps}
use Rattle.variable_shape.specs.Sample.{steps_at}
use Rattle.variable_shape.specs.Block.{rooms}

-- the steps that the code takes from the places
abbrev pub steps_from : List ParameterInterpolator → Bool → Float → Steps
steps_from ps phaseOutput before = record {
  master_frequency = (place ps 0).value;
  slave_frequency = (place ps 1).value;
  pw = (place ps 2).value;
  waveshape = (place ps 3).value;
  phase_modulation = cond phaseOutput (place ps 4).value before;
}

-- there are places enough
enough : (phaseOutput : Bool) {n : ℕ} → n ≡ 5 → length (rooms phaseOutput) ≤ n
enough true l = omega arith
enough false l = omega arith

-- they are the sample's
pub read : (s : State) (ps : List ParameterInterpolator) {steps : Steps} (on : Bool) → length ps ≡ 5 → steps ≡ steps_from ps on s.phase_modulation → steps ≡ steps_at on s (values (used (rooms on) ps))
read s ps {steps = steps} on l e =
    let at : (k : ℕ) → k < length (rooms on) → (place ps k).value ≡ get_or (values (used (rooms on) ps)) k zero32 = λ k h. value_used (rooms on) ps k h (enough on l) in
    go on e at
  where
    go : (on : Bool) → steps ≡ steps_from ps on s.phase_modulation → ((k : ℕ) → k < length (rooms on) → (place ps k).value ≡ get_or (values (used (rooms on) ps)) k zero32)
        → steps ≡ steps_at on s (values (used (rooms on) ps))
    go true e at = rw (e, at 0 (lit< tt), at 1 (lit< tt), at 2 (lit< tt), at 3 (lit< tt), at 4 (lit< tt))
    go false e at = rw (e, at 0 (lit< tt), at 1 (lit< tt), at 2 (lit< tt), at 3 (lit< tt))
