-- One sample of the variable shape: variable_shape_oscillator.rs, lines 95 to 210, in its order. Assumes nothing.
use Rattle.std.specs.Prelude.{Bool, true, false, ◌&&◌, cond, List, ℕ, get_or, Float}
use Rattle.std.specs.Float.Ieee.{le}
use Rattle.floats.specs.F32.{◌⊕◌, ◌⊖◌, ◌⊗◌, ◌⊘◌, zero32, half32, one32, two32, four32}
use Rattle.floats.specs.Helpers.{abs_of}
use Rattle.polyblep.specs.Polyblep.{this_blep_sample, next_blep_sample, this_integrated_blep_sample, next_integrated_blep_sample}
use Rattle.edges.specs.declared.Edge.{Edge}
use Rattle.edges.specs.Triangle.{triangle_step, rise_time}
use Rattle.block.specs.Counting.{one_if}
use Rattle.edges.specs.Counted.{start_of, risen_of, fallen_of, counts_of}
use Rattle.edges.specs.CrossingLoop.{crossing_loop}
use Rattle.edges.specs.Sync.{reset_time, reset_of}
use Rattle.block.specs.declared.sample.Sample.{Sample}
use Rattle.variable_shape.specs.declared.State.{State}
use Rattle.variable_shape.specs.declared.steps.Steps.{Steps}
use Rattle.variable_shape.specs.declared.waveform.Waveform.{Waveform}
use Rattle.variable_shape.specs.Waveform.{waveform_of, naive_of}

-- up through the width, lines 149 to 157
unfoldable pub rise_of : Waveform → Edge → Edge
rise_of w e =
    let t = rise_time e.phase w.pw w.previous_pw w.slave_frequency in
    let step = triangle_step w.slope_up w.slope_down w.slave_frequency w.triangle_amount in
    risen_of t
    (e.this_sample ⊕ w.square_amount ⊗ this_blep_sample t ⊖ step ⊗ this_integrated_blep_sample t)
    (e.next_sample ⊕ w.square_amount ⊗ next_blep_sample t ⊖ step ⊗ next_integrated_blep_sample t)
    e

-- down through 1, where the phase wraps, lines 164 to 173
unfoldable pub fall_of : Waveform → Edge → Edge
fall_of w e =
    let phase' = e.phase ⊖ one32 in
    let t = phase' ⊘ w.slave_frequency in
    let step = triangle_step w.slope_up w.slope_down w.slave_frequency w.triangle_amount in
    fallen_of phase' t
    (e.this_sample ⊖ (one32 ⊖ w.triangle_amount) ⊗ this_blep_sample t ⊕ step ⊗ this_integrated_blep_sample t)
    (e.next_sample ⊖ (one32 ⊖ w.triangle_amount) ⊗ next_blep_sample t ⊕ step ⊗ next_integrated_blep_sample t)
    e

-- the loop around the two crossings, lines 144 to 175
abbrev pub crossed : Waveform → Edge → Edge
crossed w e = crossing_loop w.pw (rise_of w) (fall_of w) e

-- the slave's step, lines 100, 101 and 141: this sample starts with what the last one left for it
abbrev pub edge_of : State → Float → Edge
edge_of s slaveFrequency = start_of (s.slave_phase ⊕ slaveFrequency) s.high s.next_sample

-- the edge of a sample whose master wrapped `time` samples ago, lines 118 to 176: crossed only where a transition falls before the reset
abbrev pub reset_edge : State → Waveform → Float → Edge
reset_edge s w time = reset_of w.pw (naive_of w) (crossed w) s.slave_phase w.slave_frequency time (edge_of s w.slave_frequency)

-- The state after a sample, lines 183 to 191. What the next one starts with gets the waveform and is stored after the last sample (line 210).
-- The source stores the parameters as it drops their interpolators, and what it stores is the last step.
abbrev pub after : Waveform → Edge → Float → Float → Bool → Steps → State
after w e masterPhase slavePhase high steps = record {
  master_phase = masterPhase;
  slave_phase = slavePhase;
  next_sample = e.next_sample ⊕ naive_of w slavePhase;
  previous_pw = steps.pw;
  high = high;
  master_frequency = steps.master_frequency;
  slave_frequency = steps.slave_frequency;
  pw = steps.pw;
  waveshape = steps.waveshape;
  phase_modulation = steps.phase_modulation;
}

-- lines 197 and 198: what the sample is multiplied by, so that it is 0 where the phase wraps
abbrev pub window_of : Float → Float
window_of masterPhase = let w = four32 ⊗ (one32 ⊖ masterPhase) ⊗ masterPhase in w ⊗ (two32 ⊖ w)

-- lines 201 and 202
abbrev pub phasor_of : Float → Float → Float
phasor_of masterPhase pw =
    let p2 = masterPhase ⊗ masterPhase in
    masterPhase ⊕ (p2 ⊗ p2 ⊖ masterPhase) ⊗ abs_of (pw ⊖ half32) ⊗ two32

-- what is put out, lines 193 to 207
abbrev pub output_of : Bool → Bool → Float → Float → Float → Float → Float
output_of sync phaseOutput masterPhase pw phaseModulation thisSample =
    cond phaseOutput
    (cond sync
    (phasor_of masterPhase pw ⊕ phaseModulation ⊗ (thisSample ⊗ window_of masterPhase))
    (masterPhase ⊕ phaseModulation ⊗ thisSample))
    (two32 ⊗ thisSample ⊖ one32)

-- the end of a sample: the state after it, what is put out, and the counts
unfoldable pub finish : Bool → Bool → Edge → State → ℕ → ℕ → Sample State
finish sync phaseOutput e s cycles cuts = record {
  state = s;
  sample = output_of sync phaseOutput s.master_phase s.pw s.phase_modulation e.this_sample;
  counts = counts_of cycles e.crossings cuts;
}

-- with a reset, lines 114 to 138 and 178 to 181. 01 counts a cut where it finds `high` true just before clearing it.
unfoldable pub reset_sample : Bool → State → Steps → Float → Sample State
reset_sample phaseOutput s steps masterPhase =
    let w = waveform_of steps s.previous_pw in
    let time = reset_time masterPhase steps.master_frequency in
    let e = reset_edge s w time in
    finish true phaseOutput e (after w e masterPhase (time ⊗ steps.slave_frequency) false steps) 1 (one_if e.high)

-- 01's cycles where no reset is: none of the master's with sync; without, the slave's, which wraps where it falls
abbrev pub free_cycles : Bool → ℕ → ℕ
free_cycles sync falls = cond sync 0 falls

-- without one, lines 141 to 176
unfoldable pub plain_sample : Bool → Bool → State → Steps → Float → Sample State
plain_sample sync phaseOutput s steps masterPhase =
    let w = waveform_of steps s.previous_pw in
    let e = crossed w (edge_of s steps.slave_frequency) in
    finish sync phaseOutput e (after w e masterPhase e.phase e.high steps) (free_cycles sync e.crossings.falls) 0

-- lines 112 and 113: the master's phase moves only with sync
abbrev pub master_step : Bool → Float → Float → Float
master_step sync masterPhase masterFrequency = cond sync (masterPhase ⊕ masterFrequency) masterPhase

-- lines 112 to 115: with sync, a master's phase that has come to 1 wraps and resets the slave
unfoldable pub sample_of : Bool → Bool → State → Steps → Sample State
sample_of sync phaseOutput s steps =
    let masterPhase = master_step sync s.master_phase steps.master_frequency in
    cond (sync && le one32 masterPhase)
    (reset_sample phaseOutput s steps (masterPhase ⊖ one32))
    (plain_sample sync phaseOutput s steps masterPhase)

-- A sample's steps in the order of the interpolators. 01: "Phase modulation steps only when phase output is on." With it off there is no fifth step,
-- and the state keeps its own.
abbrev pub steps_at : Bool → State → List Float → Steps
steps_at phaseOutput s steps = record {
  master_frequency = get_or steps 0 zero32;
  slave_frequency = get_or steps 1 zero32;
  pw = get_or steps 2 zero32;
  waveshape = get_or steps 3 zero32;
  phase_modulation = cond phaseOutput (get_or steps 4 zero32) s.phase_modulation;
}

-- for a block: what the buffer held is overwritten
abbrev pub sample_at : Bool → Bool → State → List Float → Float → Sample State
sample_at sync phaseOutput s steps x =
    let t = sample_of sync phaseOutput s (steps_at phaseOutput s steps) in
    record { state = t.state; sample = t.sample; counts = t.counts }
