-- A hard sync reset, which super_square_oscillator.rs (lines 73 to 93) and variable_shape_oscillator.rs (lines 114 to 138) share: the master
-- has wrapped `time` samples ago, and the slave starts anew. Assumes nothing.
use Rattle.std.specs.Prelude.{Bool, cond, not, ◌&&◌, ◌||◌, Float, Some}
use Rattle.std.specs.Float.Ieee.{le}
use Rattle.floats.specs.F32.{◌⊕◌, ◌⊖◌, ◌⊗◌, ◌⊘◌, one32}
use Rattle.polyblep.specs.Polyblep.{this_blep_sample, next_blep_sample}
use Rattle.edges.specs.declared.AtReset.{AtReset}
use Rattle.edges.specs.declared.Edge.{Edge}

-- how many samples ago the master wrapped, from its phase after the wrap and its step
abbrev pub reset_time : Float → Float → Float
reset_time masterPhase masterFrequency = masterPhase ⊘ masterFrequency

-- where the slave's phase had come to at the reset, before it is wrapped
abbrev pub slave_at_reset : Float → Float → Float → Float
slave_at_reset slavePhase slaveFrequency time = slavePhase ⊕ (one32 ⊖ time) ⊗ slaveFrequency

-- a phase that has come to 1 starts again
abbrev pub wrap_once : Float → Float
wrap_once phase = cond (le one32 phase) (phase ⊖ one32) phase

-- whether the slave has wrapped by then, or a low one come to its width
abbrev pub transition_during_reset : Bool → Float → Float → Bool
transition_during_reset high width reached = le one32 reached || (not high && le width (wrap_once reached))

-- the source's `slave_phase_at_reset`, wrapped, and its `transition_during_reset`: the first's lines 77 to 88, the second's 118 to 127
abbrev pub at_reset_of : Float → Bool → Float → Float → Float → AtReset
at_reset_of slavePhase high slaveFrequency width time =
    let reached = slave_at_reset slavePhase slaveFrequency time in
    record { slave_phase = wrap_once reached; transition = transition_during_reset high width reached }

-- what the reset takes off, for a waveform that stood at `value`; the crossings that follow are told when it was
abbrev pub cut_edge : Float → Float → Edge → Edge
cut_edge value time e = record {
  phase = e.phase;
  high = e.high;
  this_sample = e.this_sample ⊖ value ⊗ this_blep_sample time;
  next_sample = e.next_sample ⊖ value ⊗ next_blep_sample time;
  reset = Some time;
  crossings = e.crossings;
}

-- The edge of a sample whose master wrapped `time` samples ago, from e, the slave's step: crossed only where a transition falls before the reset. `naive`
-- is the waveform without its smoothing, `crossed` the loop around the crossings.
unfoldable pub reset_of : Float → (Float → Float) → (Edge → Edge) → Float → Float → Float → Edge → Edge
reset_of width naive crossed slavePhase slaveFrequency time e =
    let found = at_reset_of slavePhase e.high slaveFrequency width time in
    let r = cut_edge (naive found.slave_phase) time e in
    cond found.transition (crossed r) r
