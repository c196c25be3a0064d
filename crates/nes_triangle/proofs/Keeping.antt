-- A sample keeps the phase at least 0 and below 1 and the step below the number of steps, and counts at most one cycle and one rise. Assumes nothing.
use Rattle.std.proofs.Common.{◌≡◌, ℕ, ◌*◌, ◌^◌, ◌≤◌, List, [], ◌∷◌, get_or, refl, arith}
use lib.Ieee.{Float}
use Rattle.floats.specs.F32.{zero32}
use Rattle.floats.proofs.Ticks.{tick, cycle}
use Rattle.floats.proofs.PhaseSteps.{Step}
use Rattle.floats.proofs.Ranges.{Positive}
use Rattle.rooms.specs.Steps.{all_in}
use Rattle.rooms.proofs.RangeLaws.{frequency_step, step_frequency}
use Rattle.floats.proofs.Bools.{and_both}
use Rattle.block.specs.Counting.{all_rises, all_falls}
use Rattle.block.specs.Fit.{Inside}
use Rattle.block.specs.Voices.{Kept}
use Rattle.block.proofs.Plays.{one_most, Keeps, kept_by}
use Rattle.nes_triangle.specs.declared.State.{State}
use Rattle.nes_triangle.specs.declared.depth.Depth.{Depth}
use Rattle.block.specs.declared.sample.Sample.{Sample}
use Rattle.nes_triangle.specs.Depth.{depth_of}
use Rattle.nes_triangle.specs.Sample.{stepped_of, finish, sample_of, sample_at}
use Rattle.nes_triangle.specs.Block.{rooms}
use Rattle.nes_triangle.specs.Private.{Below, Ready, Passed}
use Rattle.nes_triangle.proofs.Stepping.{step_law}

-- what one sample does to a phase of a units with a step of b, and to all else
pub record Law (bits : ℕ) (frequency : Float) (a b : ℕ) (t : Sample State) : Type 0 where
  pub phase : Step t.state.phase t.counts.cycles a b cycle tick cycle
  pub step : Below t.state.step (2 ^ bits)
  pub stored : t.state.frequency ≡ frequency
  pub rises : all_rises t.counts ≤ 1
  pub falls : all_falls t.counts ≡ 0
  pub cuts : t.counts.cuts ≡ 0

sample_law : (d : Depth) (s : State) (frequency : Float) (h : Ready d s frequency) → Law h.bits frequency h.valid.phase.n h.some.n (sample_of d s frequency)
unfolding sample_of finish
sample_law d s frequency h =
    let t = step_law d s frequency h in
    record {
      phase = t.phase;
      step = record { n = (stepped_of d s frequency).next_step; is = refl; under = t.step };
      stored = refl;
      rises = omega (arith, one_most (stepped_of d s frequency).changed);
      falls = refl;
      cuts = refl;
    }

-- the step of a sample that passed the walk
pub stepped : (frequency : Float) → Inside rooms (frequency ∷ []) → Positive frequency (4456448 * tick)
unfolding all_in
stepped f i = frequency_step i.fit.0 (and_both _ _ i.rooms).0

abbrev ready_of : (bits : ℕ) (s : State) (frequency : Float) → Passed bits s → Inside rooms (frequency ∷ []) → Ready (depth_of bits) s frequency
ready_of bits s f v i = record { bits = bits; depth = refl; bits_in = v.bits_in; valid = v.valid; some = stepped f i }

-- a sample's law, for the steps as a list
pub law_of : (bits : ℕ) (s : State) (steps : List Float) → Passed bits s → Inside rooms steps
    → (h : Ready (depth_of bits) s (get_or steps 0 zero32)) × Law bits (get_or steps 0 zero32) h.valid.phase.n h.some.n (sample_of (depth_of bits) s (get_or steps 0 zero32))
law_of bits s [] v i = absurd (omega (arith, i.long))
law_of bits s (f ∷ []) v i = (ready_of bits s f v i, sample_law (depth_of bits) s f (ready_of bits s f v i))
law_of bits s (f ∷ g ∷ rest) v i = absurd (omega (arith, i.long))

pub keeps : (bits : ℕ) → Keeps (sample_at bits) rooms (Passed bits)
keeps bits s steps x v i =
    let r = law_of bits s steps v i in
    let l = r.1 in
    record {
      ok = record {
        bits_in = v.bits_in;
        valid = record {
          phase = record { n = l.phase.n; at = l.phase.at; under = l.phase.stays };
          step = l.step;
          frequency = rw l.stored (step_frequency r.0.some);
        };
      };
      few = record { cycles = l.phase.once; rises = omega (arith, l.rises); falls = omega (arith, l.falls); cuts = omega (arith, l.cuts) };
    }

-- the same where the depth and the step are at hand under names of their own
module _ {bits : ℕ} {s : State} {steps : List Float} {d : Depth} {f : Float} (at-d : d ≡ depth_of bits) (at-f : f ≡ get_or steps 0 zero32) where
  pub ready_at : Passed bits s → Inside rooms steps → Ready d s f
  ready_at v i = rw (at-d, at-f) (law_of bits s steps v i).0

  pub kept_at : {t : Sample State} → Passed bits s → Inside rooms steps → t ≡ sample_of d s f → Kept (Passed bits) t
  kept_at {t = t} v i at-t = kept_by (keeps bits) {x = zero32} v i {t = t} (rw (at-t, at-d, at-f))
