-- What a sample starts with, what it has crossed so far, and the counts that 01 makes of it: "each time `high` turns true or false by a crossing". Those that
-- are late are counted apart, 02 (iii). Assumes nothing.
use Rattle.std.specs.Prelude.{ℕ, ◌+◌, ◌%◌, ◌^◌, Bool, true, false, not, ◌&&◌, Float, Option, Some, None}
use Rattle.std.specs.Float.Ieee.{lt}
use Rattle.floats.specs.F32.{zero32}
use Rattle.block.specs.declared.Counts.{Counts}
use Rattle.block.specs.Counting.{one_if}
use Rattle.edges.specs.declared.Crossings.{Crossings}
use Rattle.edges.specs.declared.Edge.{Edge}

-- 02 (iii): "A crossing in a reset sample is late when its t is smaller than the reset time, compared as floats." So a NaN is not late, nor is one that is equal.
-- t is how many samples ago the crossing was, as the source hands it to its smoothing. It can be negative, and without a reset that is not late either.
abbrev pub late_after : Option Float → Float → Bool
late_after None t = false
late_after (Some time) t = lt t time

abbrev pub is_late : Edge → Float → Bool
is_late e t = late_after e.reset t

abbrev pub no_crossings : Crossings
no_crossings = record { rises = 0; falls = 0; late_rises = 0; late_falls = 0 }

-- the source's `this_sample = next_sample; next_sample = 0.0`, `reset = false` and `reset_time = 0.0`, a reset that is not there: a sample starts with what the one before left for it, and has crossed nothing
abbrev pub start_of : Float → Bool → Float → Edge
start_of phase high thisSample = record { phase = phase; high = high; this_sample = thisSample; next_sample = zero32; reset = None; crossings = no_crossings }

-- one more where it holds. 32 bits hold the number, and a sample rises twice at most (`crossed_of` in proofs/CrossingLoop): it never starts again at 0.
abbrev pub one_more_if : Bool → ℕ → ℕ
one_more_if b n = (n + one_if b) % 2 ^ 32

-- `high` has turned true once more
abbrev pub rose : Bool → Crossings → Crossings
rose late c = record { rises = one_more_if (not late) c.rises; falls = c.falls; late_rises = one_more_if late c.late_rises; late_falls = c.late_falls }

-- `high` is false now, and has turned if it was true
abbrev pub fell_if : Bool → Bool → Crossings → Crossings
fell_if high late c = record {
  rises = c.rises;
  falls = one_more_if (high && not late) c.falls;
  late_rises = c.late_rises;
  late_falls = one_more_if (high && late) c.late_falls;
}

-- it has turned false once more
abbrev pub fell : Bool → Crossings → Crossings
fell late c = fell_if true late c

-- e after a rise t samples ago, which keeps the phase, with the samples that it makes
abbrev pub risen_of : Float → Float → Float → Edge → Edge
risen_of t thisSample next_sample e = record {
  phase = e.phase;
  high = true;
  this_sample = thisSample;
  next_sample = next_sample;
  reset = e.reset;
  crossings = rose (is_late e t) e.crossings;
}

-- e after a fall, with the wrapped phase and the samples
abbrev pub fallen_of : Float → Float → Float → Float → Edge → Edge
fallen_of phase t thisSample next_sample e = record {
  phase = phase;
  high = false;
  this_sample = thisSample;
  next_sample = next_sample;
  reset = e.reset;
  crossings = fell (is_late e t) e.crossings;
}

-- e after a wrap from either side: only what was high has fallen
abbrev pub wrapped_of : Float → Float → Float → Float → Edge → Edge
wrapped_of phase t thisSample next_sample e = record {
  phase = phase;
  high = false;
  this_sample = thisSample;
  next_sample = next_sample;
  reset = e.reset;
  crossings = fell_if e.high (is_late e t) e.crossings;
}

-- the counts of one sample
abbrev pub counts_of : ℕ → Crossings → ℕ → Counts
counts_of cycles c cuts = record { cycles = cycles; rises = c.rises; falls = c.falls; cuts = cuts; late_rises = c.late_rises; late_falls = c.late_falls }
