-- Every public function's contract, as the kit reads it, determines its outcome. Assumes nothing.
use borrow.Fn.Kinds.{ended_of}
use Rattle.std.proofs.Common.{refl}
use Rattle.floats.specs.Tightness.{Determines}
use Rattle.floats.proofs.Tightness.{coincide}
use Rattle.block.proofs.Contracts.{same_outcome}
use Rattle.block.proofs.none
use Rattle.block.proofs.sum
use Rattle.block.proofs.one_if
use Rattle.block.proofs.late
use Rattle.block.proofs.refusal.number
use Rattle.block.proofs.refusal.index
use Rattle.block.proofs.voice.render
use Rattle.block.proofs.refusal.Refusal.number as number_of_refusal
use Rattle.block.proofs.refusal.Refusal.index as index_of_refusal

pub number_tight : (T : _) (l : _) (k : _) (g : _) (d : _) → Determines (ended_of _ (number.Kinds.ps T l k) (number.Kinds.r T l k)) (number.Reads.Learnt T l k g d)
number_tight T l k g d κs a r q v w h i = (coincide h i, refl)

pub index_tight : (T : _) (l : _) (k : _) (g : _) (d : _) → Determines (ended_of _ (index.Kinds.ps T l k) (index.Kinds.r T l k)) (index.Reads.Learnt T l k g d)
index_tight T l k g d κs a r q v w h i = (coincide h i, refl)

pub number_of_refusal_tight : Determines (ended_of _ number_of_refusal.Kinds.ps number_of_refusal.Kinds.r) number_of_refusal.Reads.Learnt
number_of_refusal_tight κs a r q v w h k = (coincide h k, refl)

pub index_of_refusal_tight : Determines (ended_of _ index_of_refusal.Kinds.ps index_of_refusal.Kinds.r) index_of_refusal.Reads.Learnt
index_of_refusal_tight κs a r q v w h k = (coincide h k, refl)

pub none_tight : Determines (ended_of _ none.Kinds.ps none.Kinds.r) none.Reads.Learnt
none_tight κs a r q v w h k = (coincide h k, refl)

pub sum_tight : Determines (ended_of _ sum.Kinds.ps sum.Kinds.r) sum.Reads.Learnt
sum_tight κs a r q v w h k = (coincide h k, refl)

pub one_if_tight : Determines (ended_of _ one_if.Kinds.ps one_if.Kinds.r) one_if.Reads.Learnt
one_if_tight κs a r q v w h k = (coincide h k, refl)

pub late_tight : Determines (ended_of _ late.Kinds.ps late.Kinds.r) late.Reads.Learnt
late_tight κs a r q v w h k = (coincide h k, refl)

-- of any voice V, with its states S and its hands H; the rest is what the kit asks of each
module _ (V : _) (S : _) (H : _) (lv : _) (ls : _) (lh : _) (cv : _) (cs : _) (ch : _) where
  pub render_tight : (g : _) (d : _) (gv : _) (dv : _) (gs : _) (ds : _) (gh : _) (dh : _)
      → Determines (ended_of _ (render.Kinds.ps V S H lv ls lh cv cs ch) (render.Kinds.r V S H lv ls lh cv cs ch)) (render.Reads.Learnt V S H lv ls lh cv cs ch g d gv dv gs ds gh dh)
  render_tight g d gv dv gs ds gh dh κs a r q v w h k = let o = same_outcome r q _ _ _ _ (coincide h k) in (o.0, rw (o.1, o.2))
