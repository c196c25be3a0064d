-- What the functions of a voice promise, and the call that they make together, for any oscillator. Assumes nothing.
use Rattle.std.specs.Prelude.{◌≡◌, ℕ, ◌≤◌, Result, Ok, Err, List, ◌∷◌, ◌++◌, length, Float}
use Rattle.parameter_interpolator.specs.declared.ParameterInterpolator.{ParameterInterpolator}
use Rattle.rooms.specs.declared.Room.{Room}
use Rattle.rooms.proofs.Padding.{unused}
use Rattle.block.specs.declared.refusal.Refusal.{Refusal}
use Rattle.block.specs.Answers.{refusal_number, refusal_index}
use Rattle.block.specs.declared.sample.Sample.{Sample}
use Rattle.block.specs.declared.Counts.{Counts}
use Rattle.block.specs.Counting.{plus, modulo32}
use Rattle.block.specs.Calls.{Call, run}
use Rattle.block.specs.Checks.{Check, length_check, checked, AllPass, FirstFailing}
use Rattle.block.specs.Limits.{Few}

-- the answer to the checks: all pass, and then the state is valid; or the first that fails has the refusal's number, and no index
abbrev pub Checked : List Check → Type 0 → Result (Unit {0}) Refusal → Type 0
Checked ks Valid (Ok done) = AllPass ks × Valid
Checked ks Valid (Err refusal) = (k : Check) × FirstFailing ks k × (k.number ≡ refusal_number refusal) × (0 ≡ refusal_index refusal)

-- the rooms, and behind them places that are not used, five together
abbrev pub Padded : List Room → List Room → Type 0
Padded rooms five = (k : ℕ) × (five ≡ rooms ++ unused k) × (length rooms ≤ 5)

-- a sample keeps what holds of a state (`Holds`), and counts no more than one sample may
pub record Kept {S : Type 0} (Holds : S → Type 0) (t : Sample S) : Type 0 where
  pub ok : Holds t.state
  pub few : Few 1 t.counts

-- a sample with what it counts added to the counts so far, in 32 bits
abbrev pub adding : {S : Type 0} → Counts → Sample S → Sample S
adding c t = record { state = t.state; sample = t.sample; counts = modulo32 (plus c t.counts) }

-- a call by its checks after that of the length, its rooms, its interpolators and its sample
abbrev pub call_by : {S : Type 0} → List Check → List Room → List ParameterInterpolator → (S → List Float → Float → Sample S) → S → List Float → Call S
call_by checks rooms moving make s xs = checked (length_check xs ∷ checks) s xs (run make rooms moving s xs)
