-- `wave::pcm::power` meets its contract: the shift is a power of two that fits. Assumes nothing.
use native.Mathlib.Omega.{arith}
use lib.Pow.{pow_mono}
use Rattle.std.proofs.lemmas.Nat.{one_shl}
use Rattle.wave.proofs.pcm.power.Goals as goal

pub returns-clause-bound : goal.returns-clause-bound
returns-clause-bound c = rw (one_shl c.args.s 64 (omega arith)) (pow_mono {i = c.args.s} {j = 40} c.requires)
