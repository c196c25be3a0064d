-- `ranges::targets::clamp_width` meets its contract: each way of the test is the definition's. Assumes nothing.
use Rattle.ranges.proofs.targets.clamp_width.Goals as goal

pub returns-then-frequency : goal.returns-then-frequency
returns-then-frequency c = rw c.if-frequency.true

pub returns-else-frequency : goal.returns-else-frequency
returns-else-frequency c = rw c.if-frequency.false c.clamp.ensures
