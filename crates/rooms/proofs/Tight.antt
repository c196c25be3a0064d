-- Every public function's contract, as the kit reads it, determines its outcome. Assumes nothing.
use borrow.Fn.Kinds.{ended_of}
use mathlib.Core.Path.{refl}
use Rattle.floats.specs.Tightness.{Determines}
use Rattle.floats.proofs.Tightness.{coincide}
use Rattle.rooms.proofs.still
use Rattle.rooms.proofs.advance
use Rattle.rooms.proofs.in_room
use Rattle.rooms.proofs.first_outside
use Rattle.rooms.proofs.safe
use Rattle.rooms.proofs.find_drift

pub still_tight : Determines (ended_of _ still.Kinds.ps still.Kinds.r) still.Reads.Learnt
still_tight κs a r q v w h k = (coincide h k, refl)

pub advance_tight : Determines (ended_of _ advance.Kinds.ps advance.Kinds.r) advance.Reads.Learnt
advance_tight κs a r q v w h k = (coincide h k, refl)

pub in_room_tight : Determines (ended_of _ in_room.Kinds.ps in_room.Kinds.r) in_room.Reads.Learnt
in_room_tight κs a r q v w h k = (coincide h k, refl)

pub first_outside_tight : Determines (ended_of _ first_outside.Kinds.ps first_outside.Kinds.r) first_outside.Reads.Learnt
first_outside_tight κs a r q v w h k = (coincide h k, refl)

pub safe_tight : Determines (ended_of _ safe.Kinds.ps safe.Kinds.r) safe.Reads.Learnt
safe_tight κs a r q v w h k = (coincide h k, refl)

pub find_drift_tight : Determines (ended_of _ find_drift.Kinds.ps find_drift.Kinds.r) find_drift.Reads.Learnt
find_drift_tight κs a r q v w h k = (coincide h k, refl)
