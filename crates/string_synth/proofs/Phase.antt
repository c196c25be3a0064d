-- The laws that the string synth hands to `block`, and which of its states are valid. A cycle is 8 units of phase. Assumes nothing.
use Rattle.std.proofs.Common.{◌≡◌, ◌*◌, ◌≤◌, true, List, get_or, refl, arith, lit<}
use lib.Ieee.{Float, lt, le, neg, of_bits}
use Rattle.floats.specs.F32.{zero32}
use Rattle.floats.proofs.Ticks.{tick, cycle}
use Rattle.ranges.specs.Ranges.{all_of}
use Rattle.block.specs.Oscillator.{call_of}
use Rattle.block.specs.Counting.{all_rises, all_falls}
use Rattle.block.specs.Limits.{NeitherFallsNorCuts, NoneLate}
use Rattle.block.specs.Account.{Phases32}
use Rattle.block.specs.Fit.{Inside}
use Rattle.block.proofs.Accounts.{OneSample}
use Rattle.block.proofs.Blocks.{Laws}
use Rattle.block.proofs.Oscillators.{answered_valid}
use Rattle.string_synth.specs.declared.State.{State}
use Rattle.string_synth.specs.State.{new_state, init_state}
use Rattle.string_synth.specs.Sample.{finish, sample_of, saws_of, sample_at}
use Rattle.string_synth.specs.Block.{gains_in, state_in, rooms, Arguments, string_synth}
use Rattle.string_synth.specs.Private.{Valid}
use Rattle.string_synth.proofs.Keeping.{reach_law, stepped_of_lem, keeps}
use Rattle.string_synth.proofs.Calls.{valid_of, of_valid}

one_sample : (s : State) (steps : List Float) (x : Float) → Valid s → Inside rooms steps
    → OneSample (8 * cycle) (8 * tick) s.phase (get_or steps 0 zero32) (sample_at s steps x).counts.cycles (sample_at s steps x).state.phase
unfolding sample_of finish
one_sample s steps x v i =
    let r = (stepped_of_lem s steps v i).ready in
    let p = (reach_law s (saws_of steps) r).phase in
    record { a = r.valid.phase.n; b = r.step.n; n = p.n; first_at = r.valid.phase.at; step_at = r.step.at; last_at = p.at; account = p.account }

pub laws : Laws string_synth (λ a. Valid) (8 * cycle) (8 * tick)
laws = record {
  ordered = λ s a. (lit< tt, (lit< tt, (lit< tt, (lit< tt, (lit< tt, tt)))));
  paired = λ s a. refl;
  passed = λ s a f p. valid_of s f p.1.0;
  fits = λ s a v. (v.phase.at.fit, tt);
  keeps = λ a. keeps;
  one = λ a. one_sample;
}

pub sample_neither : (s : State) (steps : List Float) (x : Float) → NeitherFallsNorCuts (sample_at s steps x).counts
unfolding sample_of finish
sample_neither s steps x = record { falls = refl; cuts = refl }

-- a string has no sync: nothing is late
pub sample_heard : (s : State) (steps : List Float) (x : Float) → NoneLate (sample_at s steps x).counts
unfolding sample_of finish
sample_heard s steps x = record { rises = refl; falls = refl }

-- a sample counts at most one cycle and one rise, and no fall and no cut
pub sample_limits : (s : State) (steps : List Float) (x : Float) → Valid s → Inside rooms steps
    → (let c = (sample_at s steps x).counts in (c.cycles ≤ 1) × (all_rises c ≤ 1) × (all_falls c ≡ 0) × (c.cuts ≡ 0))
unfolding sample_of finish
sample_limits s steps x v i = let l = reach_law s (saws_of steps) (stepped_of_lem s steps v i).ready in (l.phase.once, omega (arith, l.rises), refl, refl)

-- `new` and `init` are valid, and so is the state after an answered call
pub new_valid : state_in new_state ≡ true
unfolding state_in gains_in all_of le lt neg of_bits
new_valid = refl

pub init_valid : state_in init_state ≡ true
unfolding state_in gains_in all_of le lt neg of_bits
init_valid = refl

pub done_valid : (s : State) (a : Arguments) → Phases32 string_synth s → (call_of string_synth s a).number ≡ 0 → state_in (call_of string_synth s a).state ≡ true
done_valid s a f e = of_valid _ (answered_valid laws s f a e)
