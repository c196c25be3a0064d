-- The laws that the super square hands to `block`, and which of its states are valid. Its phase is the master's, whose wraps are the cycles. Assumes nothing.
use mathlib.Core.Path.{◌≡◌, refl}
use mathlib.Core.Bool.{true}
use mathlib.Core.List.{List}
use lib.Dec.{lit<}
use lib.ListN.{get_or}
use lib.Ieee.{Float, lt, le, of_bits}
use Rattle.floats.specs.F32.{zero32}
use Rattle.floats.proofs.Ticks.{tick, cycle}
use Rattle.ranges.specs.Ranges.{all_of}
use Rattle.block.specs.Oscillator.{call_of}
use Rattle.block.specs.Limits.{Balanced}
use Rattle.block.specs.Account.{Phases32}
use Rattle.block.specs.Fit.{Inside}
use Rattle.block.proofs.Accounts.{OneSample}
use Rattle.block.proofs.Blocks.{Laws}
use Rattle.block.proofs.Oscillators.{answered_valid}
use Rattle.super_square.specs.declared.State.{State}
use Rattle.super_square.specs.State.{new_state, init_state}
use Rattle.super_square.specs.Sample.{sample_at}
use Rattle.super_square.specs.Block.{state_in, rooms, Arguments, super_square}
use Rattle.super_square.specs.Private.{Valid}
use Rattle.super_square.proofs.Keeping.{law_of, keeps}
use Rattle.super_square.proofs.Calls.{valid_of, of_valid}

one_sample : (s : State) (steps : List Float) (x : Float) → Valid s → Inside rooms steps
    → OneSample cycle tick s.master_phase (get_or steps 0 zero32) (sample_at s steps x).counts.cycles (sample_at s steps x).state.master_phase
one_sample s steps x v i =
    let r = law_of s steps v i in
    let m = r.1.master in
    record { a = r.0.valid.master.n; b = r.0.master.n; n = m.n; first_at = r.0.valid.master.at; step_at = r.0.master.at; last_at = m.at; account = m.account }

pub laws : Laws super_square (λ a. Valid) cycle tick
laws = record {
  ordered = λ s a. (lit< tt, (lit< tt, (lit< tt, tt)));
  paired = λ s a. refl;
  passed = λ s a f p. valid_of s f p.0;
  fits = λ s a v. (v.master.at.fit, (v.slave.at.fit, tt));
  keeps = λ a. keeps;
  one = λ a. one_sample;
}

-- "rises - falls - cuts equals `high` after less `high` before", of one sample
pub sample_balanced : (s : State) (steps : List Float) (x : Float) → Valid s → Inside rooms steps → Balanced s.high (sample_at s steps x).counts (sample_at s steps x).state.high
sample_balanced s steps x v i = (law_of s steps v i).1.balance

-- `new` and `init` are valid, and so is the state after an answered call
pub new_valid : state_in new_state ≡ true
unfolding state_in all_of le lt of_bits
new_valid = refl

pub init_valid : state_in init_state ≡ true
unfolding state_in all_of le lt of_bits
init_valid = refl

pub done_valid : (s : State) (a : Arguments) → Phases32 super_square s → (call_of super_square s a).number ≡ 0 → state_in (call_of super_square s a).state ≡ true
done_valid s a f e = of_valid _ (answered_valid laws s f a e)
