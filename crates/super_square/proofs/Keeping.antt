-- A sample keeps the phases at least 0 and below 1, and counts at most one cycle, two rises, one fall and one cut. Assumes nothing.
use mathlib.Core.Path.{◌≡◌, refl}
use mathlib.Core.Bool.{Bool, true, false, cond}
use mathlib.Core.List.{List, [], ◌∷◌}
use Prim.Native.Nat.{ℕ, ◌*◌, ◌≤◌}
use native.Mathlib.Omega.{arith}
use lib.ListN.{get_or}
use lib.Ieee.{Float, le}
use Rattle.floats.specs.F32.{◌⊕◌, ◌⊖◌, ◌⊘◌, zero32, one32}
use Rattle.floats.proofs.Ticks.{tick, cycle, one_at, tick_pos, Sum}
use Rattle.floats.proofs.PhaseSteps.{Step, wraps_at_1, phase_sum, phase_wraps, phase_stays}
use Rattle.floats.proofs.Ranges.{Under, passed_le, failed_le, mul_le, reset_time_lem}
use Rattle.block.specs.Counting.{all_rises, all_falls}
use Rattle.block.specs.Limits.{Balanced}
use Rattle.rooms.specs.Steps.{all_in}
use Rattle.rooms.proofs.RangeLaws.{frequency_step, step_frequency}
use Rattle.floats.proofs.Bools.{and_both}
use Rattle.block.specs.Fit.{Inside}
use Rattle.block.proofs.Plays.{one_most, Keeps}
use Rattle.edges.proofs.CrossingLoop.{Counted, crossed_of}
use Rattle.edges.proofs.CrossingsReset.{reset_counted}
use Rattle.super_square.specs.declared.State.{State}
use Rattle.block.specs.declared.sample.Sample.{Sample}
use Rattle.super_square.specs.Sample.{level, edge_of, finish, reset_edge, reset_sample, plain_sample, sample_of, sample_at}
use Rattle.super_square.specs.Block.{rooms}
use Rattle.super_square.specs.Private.{Valid, Ready}
use Rattle.super_square.proofs.Edges.{crosses, edge_crossable}

-- what one sample does to a master's phase of a units with a step of b, and to all else
pub record Law (s : State) (masterFrequency slaveFrequency : Float) (a b : ℕ) (t : Sample State) : Type 0 where
  pub master : Step t.state.master_phase t.counts.cycles a b cycle tick cycle
  pub slave : Under t.state.slave_phase cycle
  pub master_frequency : t.state.master_frequency ≡ masterFrequency
  pub slave_frequency : t.state.slave_frequency ≡ slaveFrequency
  pub rises : all_rises t.counts ≤ 2
  pub falls : all_falls t.counts ≤ 1
  pub cuts : t.counts.cuts ≤ 1
  pub balance : Balanced s.high t.counts t.state.high

module _ (s : State) (masterFrequency slaveFrequency : Float) (h : Ready s masterFrequency slaveFrequency) where
  sum : Sum (s.master_phase ⊕ masterFrequency) h.valid.master.n h.master.n (21233664 * tick) tick
  sum = phase_sum wraps_at_1 h.valid.master.at h.master.at (omega (arith, h.valid.master.under, h.master.most))

  plain_law : le one32 (s.master_phase ⊕ masterFrequency) ≡ false → Law s masterFrequency slaveFrequency h.valid.master.n h.master.n (plain_sample s masterFrequency slaveFrequency (s.master_phase ⊕ masterFrequency))
  unfolding plain_sample finish
  plain_law l =
      let c = crossed_of (crosses slaveFrequency) (edge_crossable h) in
      record {
        master = phase_stays wraps_at_1 sum (failed_le one_at sum.at l);
        slave = c.phase;
        master_frequency = refl;
        slave_frequency = refl;
        rises = c.counted.rises;
        falls = c.counted.falls;
        cuts = omega arith;
        balance = omega (arith, c.counted.balance);
      }

  reset_counts : (time : Float) → Counted s.high (reset_edge s slaveFrequency time)
  reset_counts time = reset_counted (crosses slaveFrequency) level s.slave_phase slaveFrequency time (edge_of s slaveFrequency) (edge_crossable h)

  reset_law : le one32 (s.master_phase ⊕ masterFrequency) ≡ true → Law s masterFrequency slaveFrequency h.valid.master.n h.master.n (reset_sample s masterFrequency slaveFrequency (s.master_phase ⊕ masterFrequency ⊖ one32))
  unfolding reset_sample finish
  reset_law l =
      let masterPhase = s.master_phase ⊕ masterFrequency ⊖ one32 in
      let c = reset_counts (masterPhase ⊘ masterFrequency) in
      let time = reset_time_lem h.valid.master.at h.master.at h.master.some h.valid.master.under h.master.most l in
      let slave = mul_le time.at h.slave.at time.most in
      record {
        master = phase_wraps wraps_at_1 sum (passed_le one_at sum.at l);
        slave = record { n = slave.n; at = slave.at; under = omega (arith, slave.most, h.slave.most, tick_pos) };
        master_frequency = refl;
        slave_frequency = refl;
        rises = c.rises;
        falls = c.falls;
        cuts = one_most (reset_edge s slaveFrequency (masterPhase ⊘ masterFrequency)).high;
        balance = omega (arith, c.balance);
      }

  pub sample_law : Law s masterFrequency slaveFrequency h.valid.master.n h.master.n (sample_of s masterFrequency slaveFrequency)
  unfolding sample_of
  sample_law = go (le one32 (s.master_phase ⊕ masterFrequency)) refl
    where
      go : (t : Bool) → le one32 (s.master_phase ⊕ masterFrequency) ≡ t
          → Law s masterFrequency slaveFrequency h.valid.master.n h.master.n
          (cond t (reset_sample s masterFrequency slaveFrequency (s.master_phase ⊕ masterFrequency ⊖ one32)) (plain_sample s masterFrequency slaveFrequency (s.master_phase ⊕ masterFrequency)))
      go true l = reset_law l
      go false l = plain_law l

-- the steps of a sample that passed the walk
pub ready_of : (s : State) (masterFrequency slaveFrequency : Float) → Valid s → Inside rooms (masterFrequency ∷ slaveFrequency ∷ []) → Ready s masterFrequency slaveFrequency
unfolding all_in
ready_of s m f v i =
    let r = and_both _ _ i.rooms in
    record { valid = v; master = frequency_step i.fit.0 r.0; slave = frequency_step i.fit.1.0 (and_both _ _ r.1).0 }

-- a sample's law, for the steps as a list
pub law_of : (s : State) (steps : List Float) → Valid s → Inside rooms steps
    → (h : Ready s (get_or steps 0 zero32) (get_or steps 1 zero32)) × Law s (get_or steps 0 zero32) (get_or steps 1 zero32) h.valid.master.n h.master.n (sample_of s (get_or steps 0 zero32) (get_or steps 1 zero32))
law_of s [] v i = absurd (omega (arith, i.long))
law_of s (m ∷ []) v i = absurd (omega (arith, i.long))
law_of s (m ∷ f ∷ []) v i = let h = ready_of s m f v i in (h, sample_law s m f h)
law_of s (m ∷ f ∷ g ∷ rest) v i = absurd (omega (arith, i.long))

pub keeps : Keeps sample_at rooms Valid
keeps s steps x v i =
    let r = law_of s steps v i in
    let l = r.1 in
    record {
      ok = record {
        master = record { n = l.master.n; at = l.master.at; under = l.master.stays };
        slave = l.slave;
        master_frequency = rw l.master_frequency (step_frequency r.0.master);
        slave_frequency = rw l.slave_frequency (step_frequency r.0.slave);
      };
      few = record { cycles = l.master.once; rises = l.rises; falls = l.falls; cuts = l.cuts };
    }
