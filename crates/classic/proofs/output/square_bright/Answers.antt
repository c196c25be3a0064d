-- `classic::output::square_bright` meets its contract. Assumes nothing.
use Rattle.std.proofs.Common.{refl}
use Rattle.classic.specs.Output.{square_bright}
use Rattle.classic.proofs.output.square_bright.Goals as goal

pub returns : goal.returns
unfolding square_bright
returns c = rw c.integrate-lp_state.ensures refl
