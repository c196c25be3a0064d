-- The laws that the NES triangle hands to `block`, whichever bits each call has, and which of its states are valid. Assumes nothing.
use Rattle.std.proofs.Common.{◌≡◌, ℕ, ◌^◌, ◌≤◌, true, List, get_or, refl, lit<, pow_pos, lt-ltb}
use lib.Ieee.{Float, lt, le, of_bits}
use Rattle.floats.specs.F32.{zero32}
use Rattle.floats.proofs.Ticks.{tick, cycle}
use Rattle.ranges.proofs.AllOf.{of_each}
use Rattle.block.specs.Oscillator.{call_of}
use Rattle.block.specs.Counting.{all_rises, all_falls}
use Rattle.block.specs.Limits.{NeitherFallsNorCuts, NoneLate}
use Rattle.block.specs.Account.{Phases32}
use Rattle.block.specs.Fit.{Inside}
use Rattle.block.proofs.Accounts.{OneSample}
use Rattle.block.proofs.Blocks.{Laws}
use Rattle.block.proofs.Oscillators.{answered_valid}
use Rattle.nes_triangle.specs.declared.State.{State}
use Rattle.nes_triangle.specs.State.{new_state, init_state}
use Rattle.nes_triangle.specs.Depth.{tested_bits}
use Rattle.nes_triangle.specs.Sample.{finish, sample_of, sample_at}
use Rattle.nes_triangle.specs.Block.{state_in, rooms, Arguments, nes_triangle}
use Rattle.nes_triangle.specs.Private.{Passed}
use Rattle.nes_triangle.proofs.Keeping.{law_of, keeps}
use Rattle.nes_triangle.proofs.Calls.{passed_of, of_passed}

module _ (bits : ℕ) (s : State) (steps : List Float) (x : Float) (v : Passed bits s) (i : Inside rooms steps) where
  one_sample : OneSample cycle tick s.phase (get_or steps 0 zero32) (sample_at bits s steps x).counts.cycles (sample_at bits s steps x).state.phase
  one_sample =
      let r = law_of bits s steps v i in
      let p = r.1.phase in
      record { a = r.0.valid.phase.n; b = r.0.some.n; n = p.n; first_at = r.0.valid.phase.at; step_at = r.0.some.at; last_at = p.at; account = p.account }

  -- a sample counts at most one cycle and one rise, and no fall and no cut
  pub sample_limits : (let c = (sample_at bits s steps x).counts in (c.cycles ≤ 1) × (all_rises c ≤ 1) × (all_falls c ≡ 0) × (c.cuts ≡ 0))
  sample_limits = let l = (law_of bits s steps v i).1 in (l.phase.once, l.rises, l.falls, l.cuts)

-- a state that one call's bits accept may be refused by another's: what is valid goes by the arguments
pub laws : Laws nes_triangle (λ a. Passed a.bits) cycle tick
laws = record {
  ordered = λ s a. (lit< tt, (lit< tt, (lit< tt, tt)));
  paired = λ s a. refl;
  passed = λ s a f p. passed_of s a.frequency a.bits f p.0 p.1.0;
  fits = λ s a v. (v.valid.phase.at.fit, tt);
  keeps = λ a. keeps a.bits;
  one = λ a. one_sample a.bits;
}

pub sample_neither : (bits : ℕ) (s : State) (steps : List Float) (x : Float) → NeitherFallsNorCuts (sample_at bits s steps x).counts
unfolding sample_of finish
sample_neither bits s steps x = record { falls = refl; cuts = refl }

-- the NES triangle has no sync: nothing is late
pub sample_heard : (bits : ℕ) (s : State) (steps : List Float) (x : Float) → NoneLate (sample_at bits s steps x).counts
unfolding sample_of finish
sample_heard bits s steps x = record { rises = refl; falls = refl }

-- `new` and `init` are valid for every call's bits, and the state after an answered call for that call's
pub new_valid : (bits : ℕ) → state_in new_state bits ≡ true
unfolding state_in le lt of_bits
new_valid bits = of_each _ (refl, (refl, (lt-ltb 0 (2 ^ tested_bits bits) (pow_pos (tested_bits bits)), tt)))

pub init_valid : (bits : ℕ) → state_in init_state bits ≡ true
unfolding state_in le lt of_bits
init_valid bits = of_each _ (refl, (refl, (lt-ltb 0 (2 ^ tested_bits bits) (pow_pos (tested_bits bits)), tt)))

pub done_valid : (s : State) (a : Arguments) → Phases32 nes_triangle s → (call_of nes_triangle s a).number ≡ 0 → state_in (call_of nes_triangle s a).state a.bits ≡ true
done_valid s a f e = of_passed _ a.bits (answered_valid laws s f a e)
