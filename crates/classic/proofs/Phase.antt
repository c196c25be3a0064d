-- The laws that the classic oscillator hands to `block`, over phases below 1, and which of its states are valid. Assumes nothing.
use Rattle.std.proofs.Common.{◌≡◌, ◌≤◌, true, List, get_or, refl, lit<}
use lib.Ieee.{Float, lt, le, neg, of_bits}
use Rattle.floats.specs.F32.{zero32}
use Rattle.floats.proofs.Ticks.{tick, cycle}
use Rattle.ranges.specs.Ranges.{all_of}
use Rattle.block.specs.Counting.{all_rises, all_falls}
use Rattle.block.specs.Oscillator.{call_of}
use Rattle.block.specs.Limits.{Balanced}
use Rattle.block.specs.Account.{Phases32}
use Rattle.block.specs.Fit.{Inside}
use Rattle.block.proofs.Accounts.{OneSample}
use Rattle.block.proofs.Blocks.{Laws}
use Rattle.block.proofs.Oscillators.{answered_valid}
use Rattle.classic.specs.declared.State.{State}
use Rattle.classic.specs.declared.OscillatorShape.{OscillatorShape}
use Rattle.classic.specs.State.{new_state, initial_state}
use Rattle.classic.specs.Sample.{sample_at}
use Rattle.classic.specs.Block.{state_in, rooms, Arguments, classic}
use Rattle.classic.specs.Private.{Valid}
use Rattle.classic.proofs.Keeping.{law_of, keeps}
use Rattle.classic.proofs.Calls.{valid_of, of_valid, paired}

module _ (shape : OscillatorShape) (s : State) (steps : List Float) (x : Float) (v : Valid s) (i : Inside (rooms shape) steps) where
  one_sample : OneSample cycle tick s.phase (get_or steps 0 zero32) (sample_at shape s steps x).counts.cycles (sample_at shape s steps x).state.phase
  one_sample =
      let r = law_of shape s steps v i in
      let p = r.1.phase in
      record { a = r.0.valid.phase.n; b = r.0.some.n; n = p.n; first_at = r.0.valid.phase.at; step_at = r.0.some.at; last_at = p.at; account = p.account }

  -- a sample counts no second rise, and no cut
  pub sample_limits : (let c = (sample_at shape s steps x).counts in (c.cycles ≤ 1) × (all_rises c ≤ 1) × (all_falls c ≤ 1) × (c.cuts ≡ 0))
  sample_limits = let l = (law_of shape s steps v i).1 in (l.phase.once, l.rises, l.falls, l.cuts)

  -- "rises - falls - cuts equals `high` after less `high` before", of one sample
  pub sample_balanced : Balanced s.high (sample_at shape s steps x).counts (sample_at shape s steps x).state.high
  sample_balanced = (law_of shape s steps v i).1.balance

pub laws : Laws classic (λ a. Valid) cycle tick
laws = record {
  ordered = λ s a. (lit< tt, (lit< tt, (lit< tt, tt)));
  paired = paired;
  passed = λ s a f p. valid_of s f p.0;
  fits = λ s a v. (v.phase.at.fit, tt);
  keeps = λ a. keeps a.shape;
  one = λ a. one_sample a.shape;
}

-- `new` and `init` are valid, at every sample rate, and so is the state after an answered call
pub new_valid : state_in new_state ≡ true
unfolding state_in all_of le lt neg of_bits
new_valid = refl

pub init_valid : (rate : Float) → state_in (initial_state rate) ≡ true
unfolding state_in all_of le lt neg of_bits
init_valid rate = refl

pub done_valid : (s : State) (a : Arguments) → Phases32 classic s → (call_of classic s a).number ≡ 0 → state_in (call_of classic s a).state ≡ true
done_valid s a f e = of_valid _ (answered_valid laws s f a e)
