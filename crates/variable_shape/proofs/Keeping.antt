-- A sample keeps a valid state valid, and counts at most one cycle, two rises, one fall and one cut. Its account is that of the phase whose wraps are
-- the cycles: the master's with sync, the slave's without. Assumes nothing.
use mathlib.Core.Path.{◌≡◌, refl}
use mathlib.Core.Bool.{Bool, true, false, cond}
use Prim.Native.Nat.{ℕ, ◌*◌, ◌≤◌}
use mathlib.Core.List.{List}
use native.Mathlib.Omega.{arith}
use lib.ListN.{get_or}
use lib.Ieee.{Float, le}
use Rattle.floats.specs.F32.{◌⊕◌, ◌⊖◌, ◌⊘◌, zero32, one32}
use Rattle.floats.proofs.At.{At}
use Rattle.floats.proofs.Ticks.{tick, cycle, one_at, tick_pos, Sum}
use Rattle.floats.proofs.PhaseSteps.{Step, wraps_at_1, phase_sum, phase_wraps, phase_stays, phase_step}
use Rattle.floats.proofs.Ranges.{Under, passed_le, failed_le, mul_le, reset_time_lem}
use Rattle.edges.specs.declared.Edge.{Edge}
use Rattle.rooms.specs.declared.Room.TheVariants.{Unused}
use Rattle.ranges.specs.Ranges.{modulation_or_gain_in}
use Rattle.block.specs.Counting.{all_rises, all_falls}
use Rattle.block.specs.Limits.{Balanced}
use Rattle.block.specs.Fit.{Inside}
use Rattle.block.proofs.Plays.{one_most, Keeps}
use Rattle.ranges.proofs.AllOf.{of_each}
use Rattle.rooms.proofs.RangeLaws.{under_phase, frequency_step, step_frequency, width_step, step_width}
use Rattle.block.proofs.InsideAt.{inside_at}
use Rattle.block.proofs.Accounts.{OneSample}
use Rattle.edges.specs.Private.{Crossable}
use Rattle.edges.proofs.CrossingLoop.{Counted, crossed_of}
use Rattle.edges.proofs.CrossingsWrap.{loop_wraps}
use Rattle.edges.proofs.CrossingsReset.{reset_counted}
use Rattle.variable_shape.specs.declared.State.{State}
use Rattle.variable_shape.specs.declared.steps.Steps.{Steps}
use Rattle.variable_shape.specs.declared.waveform.Waveform.{Waveform}
use Rattle.block.specs.declared.sample.Sample.{Sample}
use Rattle.variable_shape.specs.Waveform.{waveform_of, naive_of}
use Rattle.variable_shape.specs.Sample.{crossed, edge_of, finish, reset_edge, reset_sample, plain_sample, sample_of, steps_at, sample_at}
use Rattle.variable_shape.specs.Block.{state_in, rooms, counted_phase}
use Rattle.variable_shape.specs.Private.{Valid, Ready}
use Rattle.variable_shape.proofs.Calls.{modulation_in}
use Rattle.variable_shape.proofs.Edges.{crosses, edge_crossable}
use Rattle.variable_shape.proofs.Free.{free_falls}

-- what one sample does
pub record Law (sync : Bool) (s : State) (steps : Steps) (t : Sample State) : Type 0 where
  pub account : OneSample cycle tick (counted_phase sync s) (cond sync steps.master_frequency steps.slave_frequency) t.counts.cycles (counted_phase sync t.state)
  pub valid : Valid t.state
  pub cycles : t.counts.cycles ≤ 1
  pub rises : all_rises t.counts ≤ 2
  pub falls : all_falls t.counts ≤ 1
  pub cuts : t.counts.cuts ≤ 1
  pub balance : Balanced s.high t.counts t.state.high

-- the account of a phase that made a step
accounts : {p f q : Float} {k a b R : ℕ} → At p a → At f b → Step q k a b cycle tick R → OneSample cycle tick p f k q
accounts {a = a} {b = b} P F s = record { a = a; b = b; n = s.n; first_at = P; step_at = F; last_at = s.at; account = s.account }

stays_under : {q : Float} {k a b : ℕ} → Step q k a b cycle tick cycle → Under q cycle
stays_under s = record { n = s.n; at = s.at; under = s.stays }

module _ (s : State) (steps : Steps) (h : Ready s steps) where
  -- the state after a sample, whatever the next one starts with
  after_valid : (masterPhase slavePhase next : Float) (high : Bool) → Under masterPhase cycle → Under slavePhase cycle → Valid (record {
    master_phase = masterPhase;
    slave_phase = slavePhase;
    next_sample = next;
    previous_pw = steps.pw;
    high = high;
    master_frequency = steps.master_frequency;
    slave_frequency = steps.slave_frequency;
    pw = steps.pw;
    waveshape = steps.waveshape;
    phase_modulation = steps.phase_modulation;
  })
  unfolding state_in
  after_valid masterPhase slavePhase next high m l = record {
    master = m;
    slave = l;
    ranges = of_each _ (under_phase m, (under_phase l, (step_width h.width, (step_frequency h.master, (step_frequency h.slave, (step_width h.width, (h.waveshape, (h.modulation, tt))))))));
  }

  abbrev wave : Waveform
  wave = waveform_of steps s.previous_pw

  abbrev start : Edge
  start = edge_of s steps.slave_frequency

  starts : Crossable wave.pw start
  unfolding waveform_of
  starts = edge_crossable h

  -- ---- without a reset
  slave_step : Step (crossed wave start).phase (crossed wave start).crossings.falls h.valid.slave.n h.slave.n cycle tick cycle
  slave_step =
      let w = loop_wraps (crosses wave) starts in
      rw (free_falls wave s steps.slave_frequency, w.phase, w.falls) (phase_step h.valid.slave.at h.slave.at h.valid.slave.under h.slave.most)

  free_law : (phaseOutput : Bool) → Law false s steps (plain_sample false phaseOutput s steps s.master_phase)
  unfolding plain_sample finish
  free_law phaseOutput =
      let c = crossed_of (crosses wave) starts in
      record {
        account = accounts h.valid.slave.at h.slave.at slave_step;
        valid = after_valid _ _ _ _ h.valid.master c.phase;
        cycles = omega (arith, c.counted.falls);
        rises = c.counted.rises;
        falls = c.counted.falls;
        cuts = omega arith;
        balance = omega (arith, c.counted.balance);
      }

  sum : Sum (s.master_phase ⊕ steps.master_frequency) h.valid.master.n h.master.n (21233664 * tick) tick
  sum = phase_sum wraps_at_1 h.valid.master.at h.master.at (omega (arith, h.valid.master.under, h.master.most))

  module _ (phaseOutput : Bool) where
    plain_law : le one32 (s.master_phase ⊕ steps.master_frequency) ≡ false → Law true s steps (plain_sample true phaseOutput s steps (s.master_phase ⊕ steps.master_frequency))
    unfolding plain_sample finish
    plain_law l =
        let c = crossed_of (crosses wave) starts in
        let m = phase_stays wraps_at_1 sum (failed_le one_at sum.at l) in
        record {
          account = accounts h.valid.master.at h.master.at m;
          valid = after_valid _ _ _ _ (stays_under m) c.phase;
          cycles = omega arith;
          rises = c.counted.rises;
          falls = c.counted.falls;
          cuts = omega arith;
          balance = omega (arith, c.counted.balance);
        }

  -- ---- with a reset
  reset_counts : (time : Float) → Counted s.high (reset_edge s wave time)
  unfolding waveform_of
  reset_counts time = reset_counted (crosses wave) (naive_of wave) s.slave_phase steps.slave_frequency time start starts

  module _ (phaseOutput : Bool) where
    reset_law : le one32 (s.master_phase ⊕ steps.master_frequency) ≡ true → Law true s steps (reset_sample phaseOutput s steps (s.master_phase ⊕ steps.master_frequency ⊖ one32))
    unfolding reset_sample finish
    reset_law l =
        let masterPhase = s.master_phase ⊕ steps.master_frequency ⊖ one32 in
        let c = reset_counts (masterPhase ⊘ steps.master_frequency) in
        let m = phase_wraps wraps_at_1 sum (passed_le one_at sum.at l) in
        let time = reset_time_lem h.valid.master.at h.master.at h.master.some h.valid.master.under h.master.most l in
        let slave = mul_le time.at h.slave.at time.most in
        record {
          account = accounts h.valid.master.at h.master.at m;
          valid = after_valid _ _ _ _ (stays_under m) (record { n = slave.n; at = slave.at; under = omega (arith, slave.most, h.slave.most, tick_pos) });
          cycles = omega arith;
          rises = c.rises;
          falls = c.falls;
          cuts = one_most (reset_edge s wave (masterPhase ⊘ steps.master_frequency)).high;
          balance = omega (arith, c.balance);
        }

    synced_law : (t : Bool) → le one32 (s.master_phase ⊕ steps.master_frequency) ≡ t
        → Law true s steps (cond t (reset_sample phaseOutput s steps (s.master_phase ⊕ steps.master_frequency ⊖ one32)) (plain_sample true phaseOutput s steps (s.master_phase ⊕ steps.master_frequency)))
    synced_law true l = reset_law l
    synced_law false l = plain_law phaseOutput l

    pub sample_law : (sync : Bool) → Law sync s steps (sample_of sync phaseOutput s steps)
    unfolding sample_of
    sample_law true = synced_law (le one32 (s.master_phase ⊕ steps.master_frequency)) refl
    sample_law false = free_law phaseOutput

-- ---- for a block
-- the steps of a sample that passed the walk
module _ (s : State) (v : Valid s) where
  -- phase modulation lies in its room, or is the state's own
  modulation_step : (phaseOutput : Bool) (steps : List Float) → Inside (rooms phaseOutput) steps → modulation_or_gain_in (cond phaseOutput (get_or steps 4 zero32) s.phase_modulation) ≡ true
  modulation_step true steps i = (inside_at Unused zero32 4 (rooms true) steps (omega arith) i).room
  modulation_step false steps i = modulation_in s v.ranges

  pub ready_of : (phaseOutput : Bool) (steps : List Float) → Inside (rooms phaseOutput) steps → Ready s (steps_at phaseOutput s steps)
  ready_of phaseOutput steps i =
      let m = inside_at Unused zero32 0 (rooms phaseOutput) steps (omega arith) i in
      let f = inside_at Unused zero32 1 (rooms phaseOutput) steps (omega arith) i in
      let w = inside_at Unused zero32 2 (rooms phaseOutput) steps (omega arith) i in
      let x = inside_at Unused zero32 3 (rooms phaseOutput) steps (omega arith) i in
      record {
        valid = v;
        master = frequency_step m.fit m.room;
        slave = frequency_step f.fit f.room;
        width = width_step w.fit w.room;
        waveshape = x.room;
        modulation = modulation_step phaseOutput steps i;
      }

pub keeps : (sync phaseOutput : Bool) → Keeps (sample_at sync phaseOutput) (rooms phaseOutput) Valid
keeps sync phaseOutput s steps x v i =
    let l = sample_law s (steps_at phaseOutput s steps) (ready_of s v phaseOutput steps i) phaseOutput sync in
    record { ok = l.valid; few = record { cycles = l.cycles; rises = l.rises; falls = l.falls; cuts = l.cuts } }
