-- `rooms::first_outside` meets its contract: the laws of its two loops are in `Walks`, and that the unused places change nothing in `Padding`. Assumes nothing.
use Rattle.std.proofs.Common.{◌≤◌, length, take}
use Rattle.rooms.proofs.Padding.{UnusedFrom}
use Rattle.rooms.proofs.Walks.{Moving, Walked}
use Rattle.rooms.proofs.first_outside.Given as goal

abbrev pub invariant-loop-k : goal.invariant-loop-k
invariant-loop-k l = Moving l.used l.rooms l.initial.moving l.k l.moving

abbrev pub invariant-loop-i : goal.invariant-loop-i
invariant-loop-i l = Walked (take l.used l.rooms) l.n (take l.used l.initial.moving) l.i (take l.used l.moving) × (l.used ≤ length l.moving) × UnusedFrom l.rooms l.used
