-- `floats::min` meets its contract: each way of the test is the definition's. Assumes nothing.
use Rattle.floats.proofs.Nans.{is_nan_ne}
use Rattle.floats.proofs.min.Goals as goal

pub returns-then-x-y : goal.returns-then-x-y
returns-then-x-y c = rw (← is_nan_ne c.args.y, ← c.is_nan.ensures.value, c.if-x-y.true)

pub returns-else-x-y : goal.returns-else-x-y
returns-else-x-y c = rw (← is_nan_ne c.args.y, ← c.is_nan.ensures.value, c.if-x-y.false)
