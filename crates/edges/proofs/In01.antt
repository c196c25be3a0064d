-- Crossings as 01 counted them, before 02 (iii): every one as heard. Over the edge of today, whose reset they do not know and whose late ones they leave alone.
-- Nothing but the comparison with today's definitions speaks of these. Assumes nothing.
use Rattle.std.proofs.Common.{◌+◌, ◌%◌, ◌^◌, Bool, true, false, cond}
use lib.Ieee.{Float}
use Rattle.floats.specs.F32.{◌⊖◌, ◌⊗◌}
use Rattle.polyblep.specs.Polyblep.{this_blep_sample, next_blep_sample}
use Rattle.block.specs.Counting.{one_if}
use Rattle.edges.specs.declared.Crossings.{Crossings}
use Rattle.edges.specs.declared.Edge.{Edge}
use Rattle.edges.specs.Sync.{at_reset_of}

-- `high` has turned true once more
abbrev pub rose01 : Crossings → Crossings
rose01 c = record { rises = (c.rises + 1) % 2 ^ 32; falls = c.falls; late_rises = c.late_rises; late_falls = c.late_falls }

-- `high` is false now, and has turned if it was true
abbrev pub fell_if01 : Bool → Crossings → Crossings
fell_if01 high c = record { rises = c.rises; falls = (c.falls + one_if high) % 2 ^ 32; late_rises = c.late_rises; late_falls = c.late_falls }

-- e after a rise, after a fall, and after a wrap from either side
abbrev pub risen_of01 : Float → Float → Edge → Edge
risen_of01 thisSample next_sample e = record {
  phase = e.phase;
  high = true;
  this_sample = thisSample;
  next_sample = next_sample;
  reset = e.reset;
  crossings = rose01 e.crossings;
}

abbrev pub wrapped_of01 : Float → Float → Float → Edge → Edge
wrapped_of01 phase thisSample next_sample e = record {
  phase = phase;
  high = false;
  this_sample = thisSample;
  next_sample = next_sample;
  reset = e.reset;
  crossings = fell_if01 e.high e.crossings;
}

abbrev pub fallen_of01 : Float → Float → Float → Edge → Edge
fallen_of01 phase thisSample next_sample e = record {
  phase = phase;
  high = false;
  this_sample = thisSample;
  next_sample = next_sample;
  reset = e.reset;
  crossings = fell_if01 true e.crossings;
}

-- what the reset takes off, for a waveform that stood at `value`
abbrev pub cut_edge01 : Float → Float → Edge → Edge
cut_edge01 value time e = record {
  phase = e.phase;
  high = e.high;
  this_sample = e.this_sample ⊖ value ⊗ this_blep_sample time;
  next_sample = e.next_sample ⊖ value ⊗ next_blep_sample time;
  reset = e.reset;
  crossings = e.crossings;
}

-- the edge of a sample whose master wrapped `time` samples ago
unfoldable pub reset_of01 : Float → (Float → Float) → (Edge → Edge) → Float → Float → Float → Edge → Edge
reset_of01 width naive crossed slavePhase slaveFrequency time e =
    let found = at_reset_of slavePhase e.high slaveFrequency width time in
    let r = cut_edge01 (naive found.slave_phase) time e in
    cond found.transition (crossed r) r
