-- `rooms::used_places` meets its contract: it goes down from five as long as the last room is unused. Assumes nothing.
use Rattle.rooms.proofs.Padding.{UnusedFrom}
use Rattle.rooms.proofs.used_places.Given as goal

abbrev pub invariant-loop-used : goal.invariant-loop-used
invariant-loop-used l = UnusedFrom l.rooms l.used

abbrev pub decreases-loop-used : goal.decreases-loop-used
decreases-loop-used l = l.used
