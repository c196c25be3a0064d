-- `string_synth::targets::lower` meets its contract: the loop's law stands in `Octaves`. Each turn brings the shift nearer to 8, so the
-- loop ends for every float. Assumes nothing.
use Rattle.std.proofs.Common.{◌-◌}
use Rattle.string_synth.proofs.Octaves.{Lowering}
use Rattle.string_synth.proofs.targets.lower.Given as goal

abbrev pub invariant-loop-f : goal.invariant-loop-f
invariant-loop-f l = Lowering l.frequency l.f l.shift

abbrev pub decreases-loop-f : goal.decreases-loop-f
decreases-loop-f l = 8 - l.shift
