-- `rooms::find_drift` meets its contract: nothing where all is safe, and else what the walk finds. Assumes nothing.
use Rattle.rooms.proofs.find_drift.Goals as goal

pub returns : goal.returns
returns c = rw c.if-glides.false c.first_outside.ensures
