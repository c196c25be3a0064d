-- `floats::at_least` meets its contract: each way of the test is the definition's. Assumes nothing.
use Rattle.floats.proofs.at_least.Goals as goal

pub returns-then-x-low : goal.returns-then-x-low
returns-then-x-low c = rw c.if-x-low.true

pub returns-else-x-low : goal.returns-else-x-low
returns-else-x-low c = rw c.if-x-low.false
