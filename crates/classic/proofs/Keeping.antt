-- A sample keeps the phase at least 0 and below 1, and counts at most one cycle, one rise and one fall, and no cut. Assumes nothing.
use Rattle.std.proofs.Common.{◌≡◌, ℕ, ◌*◌, ◌≤◌, Bool, true, false, cond, List, [], ◌∷◌, get_or, refl, arith}
use mathlib.Core.Bool.{false≢true}
use lib.Ieee.{Float}
use Rattle.floats.specs.F32.{◌⊕◌, zero32}
use Rattle.floats.proofs.Bools.{and_both}
use Rattle.floats.proofs.Ticks.{tick, cycle}
use Rattle.floats.proofs.PhaseSteps.{Step, phase_step}
use Rattle.floats.proofs.Ranges.{Positive}
use Rattle.ranges.specs.Ranges.{unit_in}
use Rattle.rooms.specs.declared.Room.TheVariants.{Frequency, PulseWidth}
use Rattle.rooms.specs.Steps.{all_in}
use Rattle.rooms.proofs.RangeLaws.{frequency_step, step_frequency, width_unit}
use Rattle.block.specs.Counting.{all_rises, all_falls}
use Rattle.block.specs.Fit.{Inside}
use Rattle.block.specs.Limits.{Balanced}
use Rattle.block.proofs.Plays.{Keeps}
use Rattle.classic.specs.declared.State.{State}
use Rattle.block.specs.declared.sample.Sample.{Sample}
use Rattle.classic.specs.declared.OscillatorShape.{OscillatorShape}
use Rattle.classic.specs.Shapes.{steps_width, width_of, kept_width}
use Rattle.classic.specs.Sample.{finish, sample_of, sample_at}
use Rattle.classic.specs.Block.{rooms}
use Rattle.classic.specs.Private.{Valid}
use Rattle.classic.proofs.Turned.{edges_turn}

-- the state is valid, the frequency's step lies above 0 and is at most 17/64, and where the width is stepped it lies in the state's range
pub record Ready (shape : OscillatorShape) (s : State) (frequency step : Float) : Type 0 where
  pub valid : Valid s
  pub some : Positive frequency (4456448 * tick)
  pub width : steps_width shape ≡ true → unit_in step ≡ true

-- what one sample does to a phase of a units with a step of b, and to all else
pub record Law (shape : OscillatorShape) (s : State) (frequency step : Float) (a b : ℕ) (t : Sample State) : Type 0 where
  pub phase : Step t.state.phase t.counts.cycles a b cycle tick cycle
  pub frequency_is : t.state.frequency ≡ frequency
  pub pw_is : t.state.pw ≡ kept_width shape step s.pw
  pub rises : all_rises t.counts ≤ 1
  pub falls : all_falls t.counts ≤ 1
  pub cuts : t.counts.cuts ≡ 0
  pub balance : Balanced s.high t.counts t.state.high

pub sample_law : (shape : OscillatorShape) (s : State) (frequency step : Float) (h : Ready shape s frequency step)
    → Law shape s frequency step h.valid.phase.n h.some.n (sample_of shape s frequency step)
unfolding sample_of finish
sample_law shape s frequency step h =
    let u = h.valid.phase in
    let t = edges_turn shape frequency (width_of shape step) (s.phase ⊕ frequency) s.next_sample s.high in
    record {
      phase = rw t.phase (phase_step u.at h.some.at u.under h.some.most);
      frequency_is = refl;
      pw_is = refl;
      rises = t.rises;
      falls = t.falls;
      cuts = refl;
      balance = omega (arith, t.balance);
    }

-- the steps of a sample that passed the walk, with a width among them or without
inside_of : (stepped : Bool) (steps : List Float) → Inside (Frequency ∷ cond stepped (PulseWidth ∷ []) []) steps
    → Positive (get_or steps 0 zero32) (4456448 * tick) × (stepped ≡ true → unit_in (get_or steps 1 zero32) ≡ true)
unfolding all_in
inside_of true [] i = absurd (omega (arith, i.long))
inside_of true (f ∷ []) i = absurd (omega (arith, i.long))
inside_of true (f ∷ w ∷ []) i = let r = and_both _ _ i.rooms in (frequency_step i.fit.0 r.0, λ h. width_unit w (and_both _ _ r.1).0)
inside_of true (f ∷ w ∷ x ∷ rest) i = absurd (omega (arith, i.long))
inside_of false [] i = absurd (omega (arith, i.long))
inside_of false (f ∷ []) i = (frequency_step i.fit.0 (and_both _ _ i.rooms).0, λ h. absurd (false≢true h))
inside_of false (f ∷ w ∷ rest) i = absurd (omega (arith, i.long))

-- what the state keeps of the width
kept_unit : (stepped : Bool) (step pw : Float) → (stepped ≡ true → unit_in step ≡ true) → unit_in pw ≡ true → unit_in (cond stepped step pw) ≡ true
kept_unit true step pw h v = h refl
kept_unit false step pw h v = v

module _ (shape : OscillatorShape) (s : State) (steps : List Float) (v : Valid s) (i : Inside (rooms shape) steps) where
  ready_of : Ready shape s (get_or steps 0 zero32) (get_or steps 1 zero32)
  ready_of = let r = inside_of (steps_width shape) steps i in record { valid = v; some = r.0; width = r.1 }

  -- a sample's law, for the steps as a list
  pub law_of : (h : Ready shape s (get_or steps 0 zero32) (get_or steps 1 zero32))
      × Law shape s (get_or steps 0 zero32) (get_or steps 1 zero32) h.valid.phase.n h.some.n (sample_of shape s (get_or steps 0 zero32) (get_or steps 1 zero32))
  law_of = (ready_of, sample_law shape s _ _ ready_of)

pub keeps : (shape : OscillatorShape) → Keeps (sample_at shape) (rooms shape) Valid
keeps shape s steps x v i =
    let r = law_of shape s steps v i in
    let l = r.1 in
    record {
      ok = record {
        phase = record { n = l.phase.n; at = l.phase.at; under = l.phase.stays };
        frequency = rw l.frequency_is (step_frequency r.0.some);
        pw = rw l.pw_is (kept_unit (steps_width shape) _ _ r.0.width v.pw);
      };
      few = record { cycles = l.phase.once; rises = omega (arith, l.rises); falls = l.falls; cuts = omega (arith, l.cuts) };
    }
