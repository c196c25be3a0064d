-- What a call of the variable saw makes sure of: its state is valid. Assumes nothing.
use mathlib.Core.Path.{◌≡◌}
use mathlib.Core.Bool.{Bool, true, false}
use native.Mathlib.Omega.{arith}
use lib.Dec.{T}
use lib.Ieee.{Float, binary32, fits}
use Rattle.floats.proofs.Ticks.{top_sum_at}
use Rattle.floats.proofs.Ranges.{Under, at_least_0, passes_le, upto_of}
use Rattle.block.specs.Account.{Phases32}
use Rattle.floats.proofs.Bools.{and_both}
use Rattle.ranges.proofs.AllOf.{each_of, of_each}
use Rattle.rooms.proofs.RangeLaws.{phase_under, under_phase}
use Rattle.variable_saw.specs.declared.State.{State}
use Rattle.variable_saw.specs.Block.{saw_phase_in, state_in, variable_saw}
use Rattle.variable_saw.specs.Private.{reach, Valid}

-- a phase that passed its test lies within its reach, and the other way round
phase_of : (high : Bool) (phase : Float) → T (fits binary32 phase) → saw_phase_in high phase ≡ true → Under phase (reach high)
phase_of true phase t h = let m = and_both _ _ h in let u = upto_of t m.0 m.1 top_sum_at in record { n = u.n; at = u.at; under = omega (arith, u.most) }
phase_of false phase t h = phase_under t h

of_phase : {phase : Float} (high : Bool) → Under phase (reach high) → saw_phase_in high phase ≡ true
of_phase true u = rw (at_least_0 u.at, passes_le u.at top_sum_at (omega (arith, u.under)))
of_phase false u = under_phase u

-- and so a state is valid, and the other way round
pub valid_of : (s : State) → Phases32 variable_saw s → state_in s ≡ true → Valid s
unfolding state_in
valid_of s f h =
    let e = each_of _ h in
    record { phase = phase_of s.high s.phase f.0 e.0; previous_pw = e.1.0; frequency = e.1.1.0; pw = e.1.1.1.0; waveshape = e.1.1.1.1.0 }

pub of_valid : (s : State) → Valid s → state_in s ≡ true
unfolding state_in
of_valid s v = of_each _ (of_phase s.high v.phase, (v.previous_pw, (v.frequency, (v.pw, (v.waveshape, tt)))))
