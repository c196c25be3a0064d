-- `streams::read_on` stays within the buffer and ends. The loop's invariant: what was read is no more than the buffer holds. The measure is how many
-- bytes are left. Assumes nothing.
use Rattle.std.specs.Prelude.{◌≤◌, ◌-◌, length}
use Rattle.streams.proofs.read_on.Given as goal

abbrev pub invariant-loop-done : goal.invariant-loop-done
invariant-loop-done g l = l.done ≤ length l.buf

abbrev pub decreases-loop-done : goal.decreases-loop-done
decreases-loop-done g l = length l.buf - l.done
