-- What the walk has said of one step of a sample, for any oscillator: the k-th step lies in the k-th room. Assumes nothing.
use Rattle.std.proofs.Common.{◌≡◌, ℕ, zero, suc, ◌<◌, true, T, List, [], ◌∷◌, length, get_or, arith}
use lib.Ieee.{Float, binary32, fits}
use Rattle.rooms.specs.declared.Room.{Room}
use Rattle.rooms.specs.Rooms.{in_room}
use Rattle.rooms.specs.Steps.{all_in}
use Rattle.floats.proofs.Bools.{and_both}
use Rattle.block.specs.Fit.{Inside}

pub record Stands (r : Room) (x : Float) : Type 0 where
  pub fit : T (fits binary32 x)
  pub room : in_room r x ≡ true

pub inside_at : (r : Room) (d : Float) (k : ℕ) (rs : List Room) (steps : List Float) → k < length rs → Inside rs steps → Stands (get_or rs k r) (get_or steps k d)
unfolding all_in
inside_at r d k [] steps l i = absurd (omega arith)
inside_at r d k (q ∷ rs) [] l i = absurd (omega (arith, i.long))
inside_at r d zero (q ∷ rs) (x ∷ steps) l i = record { fit = i.fit.0; room = (and_both (in_room q x) (all_in rs steps) i.rooms).0 }
inside_at r d (suc k) (q ∷ rs) (x ∷ steps) l i = inside_at r d k rs steps (omega arith) (record { long = omega (arith, i.long); rooms = (and_both (in_room q x) (all_in rs steps) i.rooms).1; fit = i.fit.1 })
