-- `streams::put_all` ends: each turn leaves fewer bytes. Assumes nothing.
use Rattle.std.specs.Prelude.{length}
use Rattle.streams.proofs.put_all.Given as goal

abbrev pub decreases-loop-left : goal.decreases-loop-left
decreases-loop-left g l = length l.left
