-- `rooms::advance` meets its contract. Assumes nothing.
use Rattle.rooms.proofs.Places.{moved_places}
use Rattle.rooms.proofs.advance.Goals as goal

pub returns : goal.returns
returns c =
    rw (c.next.ensures, c.next-2.ensures, c.next-3.ensures, c.next-4.ensures, c.next-5.ensures) (moved_places _ c.well_formed.0.1.0.1)
