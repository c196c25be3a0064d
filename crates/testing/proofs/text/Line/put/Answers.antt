-- `testing::text::Line::put` meets its contract: what has no room is left out. Assumes nothing.
use Rattle.std.proofs.Common.{rules}
use Rattle.testing.proofs.Steps.{put_fitting}
use Rattle.testing.proofs.text.Line.put.Goals as goal

pub returns : goal.returns
returns g c = let e = put_fitting _ _ _ _ c.args.text.now c.remaining_capacity.ensures c.min-fitting.ensures in search rules
