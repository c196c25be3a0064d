-- A sample of a slave with its master, which super_square_oscillator.rs (lines 73 to 125) and variable_shape_oscillator.rs (lines 112 to 181) share: for any
-- width, any waveform without its smoothing (`level`), and any loop around the crossings (`crossed`). Assumes nothing.
use Rattle.std.specs.Prelude.{Bool, false, cond, ◌&&◌, Float}
use Rattle.std.specs.Float.Ieee.{le}
use Rattle.floats.specs.F32.{◌⊕◌, ◌⊖◌, ◌⊗◌, one32}
use Rattle.block.specs.Counting.{one_if}
use Rattle.edges.specs.declared.Edge.{Edge}
use Rattle.edges.specs.declared.crossing.Slave.{Slave}
use Rattle.edges.specs.declared.crossing.Passed.{Passed}
use Rattle.edges.specs.Counted.{start_of}
use Rattle.edges.specs.Sync.{reset_time, reset_of}

-- the slave's step: this sample starts with what the last one left for it
abbrev pub step_of : Slave → Edge
step_of s = start_of (s.phase ⊕ s.frequency) s.high s.next_sample

-- with a reset. 01 counts a cut where it finds `high` true just before clearing it.
unfoldable pub reset_pass : Float → (Float → Float) → (Edge → Edge) → Slave → Float → Float → Passed
reset_pass width level crossed s masterPhase masterFrequency =
    let time = reset_time masterPhase masterFrequency in
    let e = reset_of width level crossed s.phase s.frequency time (step_of s) in
    record { master_phase = masterPhase; edge = e; slave_phase = time ⊗ s.frequency; high = false; cycles = 1; cuts = one_if e.high }

-- without one: 01's cycles are none of the master's with sync; without, the slave's, which wraps where it falls
unfoldable pub plain_pass : Bool → (Edge → Edge) → Slave → Float → Passed
plain_pass sync crossed s masterPhase =
    let e = crossed (step_of s) in
    record { master_phase = masterPhase; edge = e; slave_phase = e.phase; high = e.high; cycles = cond sync 0 e.crossings.falls; cuts = 0 }

-- with sync, a master's phase that has come to 1 wraps and resets the slave
unfoldable pub passed_of : Bool → Float → (Float → Float) → (Edge → Edge) → Slave → Float → Float → Passed
passed_of sync width level crossed s masterPhase masterFrequency =
    cond (sync && le one32 masterPhase) (reset_pass width level crossed s (masterPhase ⊖ one32) masterFrequency) (plain_pass sync crossed s masterPhase)
