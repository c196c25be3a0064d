-- The laws that the variable shape hands to `block`, and which of its states are valid. Its phase is the master's with sync and the slave's without, whose wraps are the cycles.
-- Assumes nothing.
use mathlib.Core.Path.{◌≡◌, refl}
use mathlib.Core.Bool.{Bool, true, false}
use mathlib.Core.List.{List}
use lib.Dec.{lit<}
use lib.ListN.{get_or}
use lib.Ieee.{Float, lt, le, neg, of_bits}
use Rattle.floats.specs.F32.{zero32}
use Rattle.floats.proofs.Ticks.{tick, cycle}
use Rattle.ranges.specs.Ranges.{all_of}
use Rattle.block.specs.Oscillator.{call_of}
use Rattle.block.specs.Limits.{Balanced}
use Rattle.block.specs.Account.{Phases32}
use Rattle.block.specs.Fit.{Inside}
use Rattle.block.proofs.Accounts.{OneSample}
use Rattle.block.proofs.Blocks.{Laws}
use Rattle.block.proofs.Oscillators.{answered_valid}
use Rattle.variable_shape.specs.declared.State.{State}
use Rattle.variable_shape.specs.State.{new_state, init_state}
use Rattle.variable_shape.specs.Sample.{steps_at, sample_at}
use Rattle.variable_shape.specs.Block.{state_in, rooms, Arguments, variable_shape}
use Rattle.variable_shape.specs.Private.{Valid}
use Rattle.variable_shape.proofs.Calls.{valid_of, paired}
use Rattle.variable_shape.proofs.Keeping.{Law, sample_law, ready_of, keeps}

law_of : (sync phaseOutput : Bool) (s : State) (steps : List Float) (x : Float) → Valid s → Inside (rooms phaseOutput) steps
    → (let t = sample_at sync phaseOutput s steps x in Law sync s (steps_at phaseOutput s steps) (record { state = t.state; sample = t.sample; counts = t.counts }))
law_of sync phaseOutput s steps x v i = sample_law s (steps_at phaseOutput s steps) (ready_of s v phaseOutput steps i) phaseOutput sync

one_sample : (sync phaseOutput : Bool) (s : State) (steps : List Float) (x : Float) → Valid s → Inside (rooms phaseOutput) steps
    → (let t = sample_at sync phaseOutput s steps x in
    OneSample cycle tick ((variable_shape sync).phase s) (get_or steps (variable_shape sync).phase_step zero32) t.counts.cycles ((variable_shape sync).phase t.state))
one_sample true phaseOutput s steps x v i = (law_of true phaseOutput s steps x v i).account
one_sample false phaseOutput s steps x v i = (law_of false phaseOutput s steps x v i).account

pub laws : (sync : Bool) → Laws (variable_shape sync) (λ a. Valid) cycle tick
laws sync = record {
  ordered = λ s a. (lit< tt, (lit< tt, (lit< tt, tt)));
  paired = λ s a. paired s a a.phase_output;
  passed = λ s a f p. valid_of s p.0 f;
  fits = λ s a v. (v.master.at.fit, (v.slave.at.fit, tt));
  keeps = λ a. keeps sync a.phase_output;
  one = λ a. one_sample sync a.phase_output;
}

-- "rises - falls - cuts equals `high` after less `high` before", of one sample
pub sample_balanced : (sync phaseOutput : Bool) (s : State) (steps : List Float) (x : Float) → Valid s → Inside (rooms phaseOutput) steps
    → (let t = sample_at sync phaseOutput s steps x in Balanced s.high t.counts t.state.high)
sample_balanced sync phaseOutput s steps x v i = (law_of sync phaseOutput s steps x v i).balance

-- `new` and `init` are valid, and so is the state after an answered call
pub new_valid : state_in new_state ≡ true
unfolding state_in all_of le lt neg of_bits
new_valid = refl

pub init_valid : state_in init_state ≡ true
unfolding state_in all_of le lt neg of_bits
init_valid = refl

pub done_valid : (sync : Bool) (s : State) (a : Arguments) → Phases32 (variable_shape sync) s → (call_of (variable_shape sync) s a).number ≡ 0 → state_in (call_of (variable_shape sync) s a).state ≡ true
done_valid sync s a f e = (answered_valid (laws sync) s f a e).ranges
