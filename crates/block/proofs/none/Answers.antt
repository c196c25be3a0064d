-- `block::none` meets its contract: field by field. Assumes nothing.
use Rattle.std.proofs.Common.{refl}
use Rattle.block.proofs.none.Goals as goal

pub returns : goal.returns
returns c = refl
