-- `floats::clamp` meets its contract: `at_least` is the first test, and the second is the definition's. Assumes nothing.
use Rattle.floats.proofs.clamp.Goals as goal

pub returns-then-high-raised : goal.returns-then-high-raised
returns-then-high-raised c = rw (← c.at_least-raised.ensures, c.if-high-raised.true)

pub returns-else-high-raised : goal.returns-else-high-raised
returns-else-high-raised c = rw (← c.at_least-raised.ensures, c.if-high-raised.false)
