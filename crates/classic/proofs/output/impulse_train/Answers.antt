-- `classic::output::impulse_train` meets its contract. Assumes nothing.
use Rattle.std.proofs.Common.{refl}
use Rattle.classic.specs.Output.{impulse_train}
use Rattle.classic.proofs.output.impulse_train.Goals as goal

pub returns : goal.returns
unfolding impulse_train
returns c = refl
