-- One sample of the super square: super_square_oscillator.rs, lines 60 to 131, in its order. Assumes nothing.
use Rattle.std.specs.Prelude.{Bool, false, cond, List, ℕ, get_or, Float}
use Rattle.std.specs.Float.Ieee.{lt, le}
use Rattle.floats.specs.F32.{◌⊕◌, ◌⊖◌, ◌⊗◌, ◌⊘◌, zero32, half32, one32, two32}
use Rattle.polyblep.specs.Polyblep.{this_blep_sample, next_blep_sample}
use Rattle.edges.specs.declared.Edge.{Edge}
use Rattle.block.specs.Counting.{one_if}
use Rattle.edges.specs.Counted.{start_of, risen_of, fallen_of, counts_of}
use Rattle.edges.specs.CrossingLoop.{crossing_loop}
use Rattle.edges.specs.Sync.{reset_time, reset_of}
use Rattle.block.specs.declared.sample.Sample.{Sample}
use Rattle.super_square.specs.declared.State.{State}

-- the square, lines 90 and 127
abbrev pub level : Float → Float
level phase = cond (lt phase half32) zero32 one32

-- up through 0.5, lines 103 to 106
unfoldable pub rise_of : Float → Edge → Edge
rise_of slaveFrequency e =
    let t = (e.phase ⊖ half32) ⊘ slaveFrequency in
    risen_of t
    (e.this_sample ⊕ this_blep_sample t)
    (e.next_sample ⊕ next_blep_sample t)
    e

-- down through 1, where the phase wraps, lines 113 to 117
unfoldable pub fall_of : Float → Edge → Edge
fall_of slaveFrequency e =
    let phase' = e.phase ⊖ one32 in
    let t = phase' ⊘ slaveFrequency in
    fallen_of phase' t
    (e.this_sample ⊖ this_blep_sample t)
    (e.next_sample ⊖ next_blep_sample t)
    e

-- the loop around the two crossings, lines 98 to 119
abbrev pub crossed : Float → Edge → Edge
crossed slaveFrequency e = crossing_loop half32 (rise_of slaveFrequency) (fall_of slaveFrequency) e

-- the slave's step, lines 65, 66 and 95: this sample starts with what the last one left for it
abbrev pub edge_of : State → Float → Edge
edge_of s slaveFrequency = start_of (s.slave_phase ⊕ slaveFrequency) s.high s.next_sample

-- the edge of a sample whose master wrapped `time` samples ago, lines 77 to 120: crossed only where a transition falls before the reset
abbrev pub reset_edge : State → Float → Float → Edge
reset_edge s slaveFrequency time = reset_of half32 level (crossed slaveFrequency) s.slave_phase slaveFrequency time (edge_of s slaveFrequency)

-- The state after a sample. What the next one starts with gets the square (line 127) and is stored after the last sample (line 131).
-- The source stores the frequencies as it drops their interpolators, and what it stores is the last step.
abbrev pub after : Edge → Float → Float → Bool → Float → Float → State
after e masterPhase slavePhase high masterFrequency slaveFrequency = record {
  master_phase = masterPhase;
  slave_phase = slavePhase;
  next_sample = e.next_sample ⊕ level slavePhase;
  high = high;
  master_frequency = masterFrequency;
  slave_frequency = slaveFrequency;
}

-- the end of a sample: the state after it, what is put out (line 128), and the counts
unfoldable pub finish : Edge → State → ℕ → ℕ → Sample State
finish e s cycles cuts = record {
  state = s;
  sample = two32 ⊗ e.this_sample ⊖ one32;
  counts = counts_of cycles e.crossings cuts;
}

-- with a reset, lines 73 to 93 and 122 to 125. 01 counts a cut where it finds `high` true just before clearing it.
unfoldable pub reset_sample : State → Float → Float → Float → Sample State
reset_sample s masterFrequency slaveFrequency masterPhase =
    let time = reset_time masterPhase masterFrequency in
    let e = reset_edge s slaveFrequency time in
    finish e (after e masterPhase (time ⊗ slaveFrequency) false masterFrequency slaveFrequency) 1 (one_if e.high)

-- without one, lines 95 to 120
unfoldable pub plain_sample : State → Float → Float → Float → Sample State
plain_sample s masterFrequency slaveFrequency masterPhase =
    let e = crossed slaveFrequency (edge_of s slaveFrequency) in
    finish e (after e masterPhase e.phase e.high masterFrequency slaveFrequency) 0 0

-- lines 68 to 74, for the steps of both frequencies: the master's phase moves, and where it has come to 1 it wraps and resets the slave
unfoldable pub sample_of : State → Float → Float → Sample State
sample_of s masterFrequency slaveFrequency =
    let masterPhase = s.master_phase ⊕ masterFrequency in
    cond (le one32 masterPhase)
    (reset_sample s masterFrequency slaveFrequency (masterPhase ⊖ one32))
    (plain_sample s masterFrequency slaveFrequency masterPhase)

-- for a block: the steps are the master's frequency and the slave's, and what the buffer held is overwritten
abbrev pub sample_at : State → List Float → Float → Sample State
sample_at s steps x =
    let t = sample_of s (get_or steps 0 zero32) (get_or steps 1 zero32) in
    record { state = t.state; sample = t.sample; counts = t.counts }
