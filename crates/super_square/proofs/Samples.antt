-- A sample of the super square, from its parts: the crossings, and what comes after them; and what is left of it where there is neither a reset nor a
-- crossing, which counts nothing. Assumes nothing.
use mathlib.Core.Path.{◌≡◌, refl}
use mathlib.Core.Bool.{Bool, true, false, not, ◌&&◌, cond}
use borrow.Author.Tests.{not-true}
use lib.Ieee.{Float, lt, le}
use Rattle.floats.specs.F32.{◌⊕◌, ◌⊖◌, half32, one32}
use Rattle.floats.proofs.Bools.{and_both}
use Rattle.block.specs.Counting.{no_counts}
use Rattle.block.specs.declared.sample.Sample.{Sample}
use Rattle.edges.proofs.CrossingLoop.{uncrossed}
use Rattle.super_square.specs.declared.State.{State}
use Rattle.edges.specs.declared.crossing.Slave.{Slave}
use Rattle.edges.specs.declared.crossing.Passed.{Passed}
use Rattle.edges.specs.Synced.{reset_pass, plain_pass, passed_of}
use Rattle.super_square.specs.Sample.{level, crossed, edge_of, after, finish, reset_sample, plain_sample, sample_of}
use Rattle.super_square.proofs.Edges.{crosses}

-- the slave, and its step
abbrev pub slave_of : State → Float → Slave
slave_of s f = record { phase = s.slave_phase; high = s.high; next_sample = s.next_sample; frequency = f }

module _ (s : State) (masterFrequency slaveFrequency : Float) where
  -- what follows the crossings
  abbrev ended : Passed → Sample State
  ended p = finish p.edge (after p.edge p.master_phase p.slave_phase p.high masterFrequency slaveFrequency) p.cycles p.cuts

  -- each way is the definition's
  ways : (masterPhase : Float) (wraps : Bool)
      → (let c = crossed slaveFrequency in let v = slave_of s slaveFrequency in
      ended (cond wraps (reset_pass half32 level c v (masterPhase ⊖ one32) masterFrequency) (plain_pass true c v masterPhase))
      ≡ cond wraps (reset_sample s masterFrequency slaveFrequency (masterPhase ⊖ one32)) (plain_sample s masterFrequency slaveFrequency masterPhase))
  unfolding reset_pass plain_pass reset_sample plain_sample
  ways masterPhase true = refl
  ways masterPhase false = refl

  -- a sample, from what the functions that it calls ensure
  pub sample_is : {p : Passed} {t : State} {r : Sample State} → p ≡ passed_of true half32 level (crossed slaveFrequency) (slave_of s slaveFrequency) (s.master_phase ⊕ masterFrequency) masterFrequency
      → t ≡ after p.edge p.master_phase p.slave_phase p.high masterFrequency slaveFrequency → r ≡ finish p.edge t p.cycles p.cuts → r ≡ sample_of s masterFrequency slaveFrequency
  unfolding passed_of sample_of
  sample_is at-p at-t at-r = rw (at-r, at-t, at-p) (ways (s.master_phase ⊕ masterFrequency) (le one32 (s.master_phase ⊕ masterFrequency)))

-- a sample with no reset and no crossing, from the tests as one
module _ (s : State) (masterFrequency slaveFrequency : Float)
    (q : (not (le one32 (s.master_phase ⊕ masterFrequency)) && cond s.high (lt (s.slave_phase ⊕ slaveFrequency) one32) (lt (s.slave_phase ⊕ slaveFrequency) half32)) ≡ true) where
  pub sample_quiet : sample_of s masterFrequency slaveFrequency
      ≡ (let e = edge_of s slaveFrequency in finish e (after e (s.master_phase ⊕ masterFrequency) e.phase e.high masterFrequency slaveFrequency) 0 0)
  unfolding sample_of plain_sample
  sample_quiet =
      let n = and_both _ _ q in
      rw (not-true (le one32 (s.master_phase ⊕ masterFrequency)) n.0, uncrossed (crosses slaveFrequency) (edge_of s slaveFrequency) s.high refl n.1)

  -- nothing is counted
  pub quiet_made : {t : Sample State} → t ≡ sample_of s masterFrequency slaveFrequency
      → ◌≡◌ {A = Sample State} (record { state = t.state; sample = t.sample; counts = no_counts }) (record { state = t.state; sample = t.sample; counts = t.counts })
  unfolding finish
  quiet_made e = rw (e, sample_quiet)
