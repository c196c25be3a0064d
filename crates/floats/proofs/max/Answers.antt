-- `floats::max` meets its contract: each way of the test is the definition's. Assumes nothing.
use Rattle.floats.proofs.Nans.{is_nan_ne}
use Rattle.floats.proofs.max.Goals as goal

pub returns-then-y-x : goal.returns-then-y-x
returns-then-y-x c = rw (← is_nan_ne c.args.y, ← c.is_nan.ensures.value, c.if-y-x.true)

pub returns-else-y-x : goal.returns-else-y-x
returns-else-y-x c = rw (← is_nan_ne c.args.y, ← c.is_nan.ensures.value, c.if-y-x.false)
