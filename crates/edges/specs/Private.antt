-- What the functions that make a sample ask of each other and leave. Of it `pass` alone asks something of its callers, `Crossable`, and a reader need not believe the rest.
-- A tick is 2^-24, and 21233664 ticks are 81/64. Assumes nothing.
use Rattle.std.specs.Prelude.{◌≡◌, ◌*◌, ◌&&◌, Bool, true, false, cond, Option, Some, None, Float}
use Rattle.std.specs.Float.Ieee.{le}
use Rattle.floats.specs.F32.{◌⊖◌, ◌⊗◌, one32}
use Rattle.floats.proofs.Ticks.{tick, cycle}
use Rattle.floats.proofs.Ranges.{Under, UpTo}
use Rattle.edges.specs.declared.Edge.{Edge}
use Rattle.edges.specs.declared.crossing.Slave.{Slave}
use Rattle.edges.specs.declared.crossing.Start.{Start}
use Rattle.edges.specs.declared.crossing.Passed.{Passed}
use Rattle.block.specs.Counting.{one_if}
use Rattle.edges.specs.Counted.{no_crossings}
use Rattle.edges.specs.Sync.{reset_time, at_reset_of, cut_edge}
use Rattle.edges.specs.Synced.{step_of}

-- an edge that the crossing loop can start from: `Starts` of CrossingLoop, with the numbers that its tests stand for
pub record Crossable (width : Float) (e : Edge) : Type 0 where
  pub narrow : Under width cycle
  pub phase : UpTo e.phase (21233664 * tick)
  pub none : e.crossings ≡ no_crossings

-- A sample in parts, with the crossings of both ways in one place: that the parts make `passed_of` is shown in proofs/Passes. Before the crossings, with a reset
unfoldable pub reset_start : Float → (Float → Float) → Slave → Float → Float → Start
reset_start width level s masterPhase masterFrequency =
    let time = reset_time masterPhase masterFrequency in
    let found = at_reset_of s.phase s.high s.frequency width time in
    record {
      master_phase = masterPhase;
      restart = Some (time ⊗ s.frequency);
      edge = cut_edge (level found.slave_phase) time (step_of s);
      crosses = found.transition;
    }

-- without one
unfoldable pub plain_start : Slave → Float → Start
plain_start s masterPhase = record { master_phase = masterPhase; restart = None; edge = step_of s; crosses = true }

-- with one or without
unfoldable pub begun : Bool → Float → (Float → Float) → Slave → Float → Float → Start
begun sync width level s masterPhase masterFrequency =
    cond (sync && le one32 masterPhase) (reset_start width level s (masterPhase ⊖ one32) masterFrequency) (plain_start s masterPhase)

-- the crossings
abbrev pub crossed_if : Bool → (Edge → Edge) → Edge → Edge
crossed_if crosses crossed e = cond crosses (crossed e) e

-- after them
unfoldable pub left_at : Bool → Float → Edge → Option Float → Passed
left_at sync masterPhase e (Some phase) = record { master_phase = masterPhase; edge = e; slave_phase = phase; high = false; cycles = 1; cuts = one_if e.high }
left_at sync masterPhase e None = record { master_phase = masterPhase; edge = e; slave_phase = e.phase; high = e.high; cycles = cond sync 0 e.crossings.falls; cuts = 0 }

abbrev pub end_of : Bool → Start → Edge → Passed
end_of sync b e = left_at sync b.master_phase e b.restart
