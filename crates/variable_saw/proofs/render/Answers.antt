-- `variable_saw::render` meets its contract: it is the call of any oscillator, and so the super square's. Assumes nothing.
use Rattle.block.specs.Oscillator.{call_of}
use Rattle.variable_saw.proofs.render.Goals as goal

pub returns : goal.returns
unfolding call_of
returns c = c.render.ensures
