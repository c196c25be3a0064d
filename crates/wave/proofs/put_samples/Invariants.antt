-- `wave::put_samples` meets its contract: the loop puts sample by sample. Assumes nothing.
use Rattle.wave.proofs.Putting.{Put}
use Rattle.wave.proofs.put_samples.Given as goal

abbrev pub invariant-loop-i : goal.invariant-loop-i
invariant-loop-i l = Put l.initial.out l.samples l.out l.i
