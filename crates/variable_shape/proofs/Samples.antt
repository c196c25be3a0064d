-- A sample of the variable shape, from its parts: the crossings, and what comes after them; and what is left of it where there is neither a reset nor a
-- crossing, which counts nothing. Assumes nothing.
use mathlib.Core.Path.{◌≡◌, refl}
use mathlib.Core.Bool.{Bool, true, false, not, ◌&&◌, cond}
use Prim.Native.Nat.{ℕ}
use borrow.Author.Tests.{not-true}
use lib.Ieee.{Float, lt, le}
use Rattle.floats.specs.F32.{◌⊕◌, ◌⊖◌, one32}
use Rattle.floats.proofs.Bools.{and_both, cond_both}
use Rattle.block.specs.Counting.{no_counts}
use Rattle.block.specs.declared.sample.Sample.{Sample}
use Rattle.edges.specs.declared.crossing.Slave.{Slave}
use Rattle.edges.specs.declared.crossing.Passed.{Passed}
use Rattle.edges.specs.Synced.{step_of, reset_pass, plain_pass, passed_of}
use Rattle.edges.specs.Private.{Crossable}
use Rattle.edges.proofs.CrossingLoop.{uncrossed}
use Rattle.variable_shape.specs.declared.State.{State}
use Rattle.variable_shape.specs.declared.steps.Steps.{Steps}
use Rattle.variable_shape.specs.declared.waveform.Waveform.{Waveform}
use Rattle.variable_shape.specs.Waveform.{waveform_of, naive_of}
use Rattle.variable_shape.specs.Sample.{crossed, edge_of, master_step, after, finish, reset_sample, plain_sample, sample_of}
use Rattle.variable_shape.specs.Private.{Ready}
use Rattle.variable_shape.proofs.Edges.{crosses, edge_crossable}

-- the slave, and its step
abbrev pub slave_of : State → Float → Slave
slave_of s f = record { phase = s.slave_phase; high = s.high; next_sample = s.next_sample; frequency = f }

-- what follows the crossings
abbrev ended : Bool → Bool → Steps → Waveform → Passed → Sample State
ended sync phaseOutput steps w p = finish sync phaseOutput p.edge (after w p.edge p.master_phase p.slave_phase p.high steps) p.cycles p.cuts

module _ (phaseOutput : Bool) (s : State) (steps : Steps) where
  -- each way is the definition's
  ways : (masterPhase : Float) (sync wraps : Bool)
      → (let w = waveform_of steps s.previous_pw in
      let v = slave_of s steps.slave_frequency in
      ended sync phaseOutput steps w (cond (sync && wraps) (reset_pass w.pw (naive_of w) (crossed w) v (masterPhase ⊖ one32) steps.master_frequency) (plain_pass sync (crossed w) v masterPhase))
      ≡ cond (sync && wraps) (reset_sample phaseOutput s steps (masterPhase ⊖ one32)) (plain_sample sync phaseOutput s steps masterPhase))
  unfolding waveform_of reset_pass plain_pass reset_sample plain_sample
  ways masterPhase true true = refl
  ways masterPhase true false = refl
  ways masterPhase false wraps = refl

  -- a sample, from what the functions that it calls ensure
  pub sample_is : (sync : Bool) {w : Waveform} {m : Float} {p : Passed} {t : State} {r : Sample State} → w ≡ waveform_of steps s.previous_pw → m ≡ master_step sync s.master_phase steps.master_frequency
      → p ≡ passed_of sync w.pw (naive_of w) (crossed w) (slave_of s steps.slave_frequency) m steps.master_frequency → t ≡ after w p.edge p.master_phase p.slave_phase p.high steps
      → r ≡ finish sync phaseOutput p.edge t p.cycles p.cuts → r ≡ sample_of sync phaseOutput s steps
  unfolding passed_of sample_of
  sample_is sync at-w at-m at-p at-t at-r = rw (at-r, at-t, at-p, at-m, at-w) (ways _ sync _)

-- the edge that the crossings start with
pub slave_crossable : {s : State} {steps : Steps} {w : Waveform} → w ≡ waveform_of steps s.previous_pw → Ready s steps → Crossable w.pw (step_of (slave_of s steps.slave_frequency))
unfolding waveform_of
slave_crossable at-w h = rw at-w (edge_crossable h)

-- a sample with no reset and no crossing, from the tests as one
module _ (sync phaseOutput : Bool) (s : State) (steps : Steps)
    (q : (not (sync && le one32 (master_step sync s.master_phase steps.master_frequency)) && cond s.high (lt (s.slave_phase ⊕ steps.slave_frequency) one32) (lt (s.slave_phase ⊕ steps.slave_frequency) steps.pw)) ≡ true) where
  pub sample_quiet : sample_of sync phaseOutput s steps
      ≡ (let w = waveform_of steps s.previous_pw in
      let e = edge_of s steps.slave_frequency in
      finish sync phaseOutput e (after w e (master_step sync s.master_phase steps.master_frequency) e.phase e.high steps) 0 0)
  unfolding sample_of plain_sample waveform_of
  sample_quiet =
      let n = and_both _ _ q in
      rw (not-true (sync && le one32 (master_step sync s.master_phase steps.master_frequency)) n.0, uncrossed (crosses (waveform_of steps s.previous_pw)) (edge_of s steps.slave_frequency) s.high refl n.1, cond_both (λ (k : ℕ). k ≡ 0) sync 0 0 refl refl)

  -- nothing is counted
  pub quiet_made : {t : Sample State} → t ≡ sample_of sync phaseOutput s steps → ◌≡◌ {A = Sample State} (record { state = t.state; sample = t.sample; counts = no_counts }) (record { state = t.state; sample = t.sample; counts = t.counts })
  unfolding finish
  quiet_made e = rw (e, sample_quiet)
