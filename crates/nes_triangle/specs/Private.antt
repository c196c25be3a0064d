-- What the crate's own functions ask of each other. No public contract cites it, and a reader need not believe it.
-- A tick is 2^-24: 4456448 ticks are 17/64. Assumes nothing.
use Rattle.std.specs.Prelude.{◌≡◌, ℕ, ◌*◌, ◌^◌, ◌<◌, ◌≤◌, Bool, true, not, ◌&&◌, ◌||◌, List, [], ◌∷◌, ℤ, pos, nat_le, unsigned_abs, Float}
use Rattle.std.specs.Float.Ieee.{le}
use Rattle.floats.specs.F32.{whole32, ◌⊗◌, half32, four32, max_frequency}
use Rattle.floats.specs.Helpers.{min_of}
use Rattle.floats.proofs.Ticks.{tick, cycle}
use Rattle.floats.proofs.Ranges.{Under, Positive}
use Rattle.block.specs.Counting.{one_if}
use Rattle.ranges.specs.Ranges.{frequency_in}
use Rattle.rooms.specs.declared.Room.TheVariants.{Frequency}
use Rattle.rooms.proofs.Guard.{Course}
use Rattle.nes_triangle.specs.declared.State.{State}
use Rattle.nes_triangle.specs.declared.depth.Depth.{Depth}
use Rattle.nes_triangle.specs.declared.quiet.Held.{Held}
use Rattle.nes_triangle.specs.declared.sample.Stepped.{Stepped}
use Rattle.nes_triangle.specs.declared.step.Reached.{Reached}
use Rattle.nes_triangle.specs.declared.sample.Gains.{Gains}
use Rattle.nes_triangle.specs.declared.sample.Samples.{Samples}
use Rattle.nes_triangle.specs.Depth.{depth_of}
use Rattle.nes_triangle.specs.Sample.{wrap_phase, wrap_step, stepped_of, step_sign, edge_of, trough_of, sound_of, nes_level}

-- z is a whole number from 0 up and below m
pub record Below (z : ℤ) (m : ℕ) : Type 0 where
  pub n : ℕ
  pub is : z ≡ pos n
  pub under : n < m

-- the bits of a call that passed the tests
pub record BitsIn (bits : ℕ) : Type 0 where
  pub low : 1 ≤ bits
  pub high : bits ≤ 16

-- the phase is a binary32 value of at least 0 and below 1, the step one of 2^bits, and the frequency passes its test
pub record Valid (bits : ℕ) (s : State) : Type 0 where
  pub phase : Under s.phase cycle
  pub step : Below s.step (2 ^ bits)
  pub frequency : frequency_in s.frequency ≡ true

-- what a sample starts from: d is the depth of some bits, the state is valid for them, and the frequency's step lies above 0 and is at most 17/64
pub record Ready (d : Depth) (s : State) (frequency : Float) : Type 0 where
  pub bits : ℕ
  pub depth : d ≡ depth_of bits
  pub bits_in : BitsIn bits
  pub valid : Valid bits s
  pub some : Positive frequency (4456448 * tick)

-- the bits and the state of a call that passed their tests
pub record Passed (bits : ℕ) (s : State) : Type 0 where
  pub bits_in : BitsIn bits
  pub valid : Valid bits s

-- the course of its parameter: the frequency goes to its target
abbrev pub courses : State → Float → List Course
courses s frequency = record { room = Frequency; value = s.frequency; target = min_of frequency max_frequency } ∷ []

-- h holds the step of s, and its level
abbrev pub Holds : Depth → State → Held → Type 0
Holds d s h = (h.at ≡ whole32 (unsigned_abs s.step)) × (h.level ≡ whole32 (nes_level (unsigned_abs s.step) d.half d.top))

-- what a sample has come to, from where its step leads, the samples with their discontinuities, and whether it still ascended after the peak
unfoldable pub reached_of : Stepped → Samples → Bool → Reached
reached_of t x ascending = record {
  phase = t.phase;
  step = t.next_step;
  ascending = t.wrap || ascending;
  samples = x;
  cycles = one_if t.wrap;
  rises = one_if t.changed;
}

-- the same for a new step, from the samples with the peak
unfoldable pub turned_of : Depth → Gains → Samples → Bool → Float → ℕ → Float → Reached
turned_of d g x ascending reached whole frequency =
    let wrap = nat_le d.num_steps whole in
    let t : Stepped = record {
      reached = reached;
      phase = wrap_phase reached wrap;
      next_step = wrap_step whole d.num_steps wrap;
      changed = true;
      wrap = wrap;
    } in
    let discontinuity = step_sign d.num_steps d.half t.next_step ⊗ g.nes_gain in
    reached_of t
    (trough_of wrap t.phase frequency (four32 ⊗ frequency ⊗ g.tri_gain)
    (edge_of t d.num_steps_f frequency discontinuity x))
    ascending

-- and for every sample, of the definition's own parts
unfoldable pub reach_of : Depth → State → Gains → Float → Reached
reach_of d s g frequency =
    let t = stepped_of d s frequency in
    reached_of t (sound_of d s t g frequency) (s.ascending && not (le half32 t.reached))
