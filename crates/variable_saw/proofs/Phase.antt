-- The laws that the variable saw hands to `block`, over phases of up to 81/64, and which of its states are valid. Assumes nothing.
use mathlib.Core.Path.{◌≡◌, refl}
use mathlib.Core.Bool.{true}
use mathlib.Core.List.{List}
use Prim.Native.Nat.{◌≤◌}
use lib.Dec.{lit<}
use lib.ListN.{get_or}
use lib.Ieee.{Float, lt, le, neg, of_bits}
use Rattle.floats.specs.F32.{zero32}
use Rattle.floats.proofs.Ticks.{tick, cycle}
use Rattle.ranges.specs.Ranges.{all_of}
use Rattle.block.specs.Counting.{all_rises, all_falls}
use Rattle.block.specs.Oscillator.{call_of}
use Rattle.block.specs.Limits.{Balanced}
use Rattle.block.specs.Account.{Phases32}
use Rattle.block.specs.Fit.{Inside}
use Rattle.block.proofs.Accounts.{OneSample}
use Rattle.block.proofs.Blocks.{Laws}
use Rattle.block.proofs.Oscillators.{answered_valid}
use Rattle.variable_saw.specs.declared.State.{State}
use Rattle.variable_saw.specs.State.{new_state, init_state}
use Rattle.variable_saw.specs.Sample.{sample_at}
use Rattle.variable_saw.specs.Block.{state_in, rooms, Arguments, variable_saw}
use Rattle.variable_saw.specs.Private.{Valid}
use Rattle.variable_saw.proofs.Keeping.{law_of, keeps}
use Rattle.variable_saw.proofs.Calls.{valid_of, of_valid}

module _ (s : State) (steps : List Float) (x : Float) (v : Valid s) (i : Inside rooms steps) where
  one_sample : OneSample cycle tick s.phase (get_or steps 0 zero32) (sample_at s steps x).counts.cycles (sample_at s steps x).state.phase
  one_sample =
      let r = law_of s steps v i in
      let p = r.1.phase in
      record { a = r.0.valid.phase.n; b = r.0.step.n; n = p.n; first_at = r.0.valid.phase.at; step_at = r.0.step.at; last_at = p.at; account = p.account }

  -- a saw's sample counts no second rise, and no cut
  pub sample_limits : (let c = (sample_at s steps x).counts in (c.cycles ≤ 1) × (all_rises c ≤ 1) × (all_falls c ≤ 1) × (c.cuts ≡ 0))
  sample_limits = let l = (law_of s steps v i).1 in (l.phase.once, l.rises, l.falls, l.cuts)

  -- "rises - falls - cuts equals `high` after less `high` before", of one sample
  pub sample_balanced : Balanced s.high (sample_at s steps x).counts (sample_at s steps x).state.high
  sample_balanced = (law_of s steps v i).1.balance

pub laws : Laws variable_saw (λ a. Valid) cycle tick
laws = record {
  ordered = λ s a. (lit< tt, (lit< tt, (lit< tt, tt)));
  paired = λ s a. refl;
  passed = λ s a f p. valid_of s f p.0;
  fits = λ s a v. (v.phase.at.fit, tt);
  keeps = λ a. keeps;
  one = λ a. one_sample;
}

-- `new` and `init` are valid, and so is the state after an answered call
pub new_valid : state_in new_state ≡ true
unfolding state_in all_of le lt neg of_bits
new_valid = refl

pub init_valid : state_in init_state ≡ true
unfolding state_in all_of le lt neg of_bits
init_valid = refl

pub done_valid : (s : State) (a : Arguments) → Phases32 variable_saw s → (call_of variable_saw s a).number ≡ 0 → state_in (call_of variable_saw s a).state ≡ true
done_valid s a f e = of_valid _ (answered_valid laws s f a e)
