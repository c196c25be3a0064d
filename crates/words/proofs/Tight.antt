-- Every public function's contract, as the kit reads it, determines its outcome. Assumes nothing.
use borrow.Fn.Kinds.{ended_of}
use mathlib.Core.Path.{refl}
use Rattle.floats.specs.Tightness.{Determines}
use Rattle.floats.proofs.Tightness.{coincide}
use Rattle.words.proofs.result_of
use Rattle.words.proofs.no_bool
use Rattle.words.proofs.no_state
use Rattle.words.proofs.stores
use Rattle.words.proofs.signed
use Rattle.words.proofs.unsigned
use Rattle.words.proofs.state.render
use Rattle.words.proofs.Faces.{same_face}

pub result_of_tight : Determines (ended_of _ result_of.Kinds.ps result_of.Kinds.r) result_of.Reads.Learnt
result_of_tight κs a r q v w h k = (coincide h k, refl)

pub no_bool_tight : Determines (ended_of _ no_bool.Kinds.ps no_bool.Kinds.r) no_bool.Reads.Learnt
no_bool_tight κs a r q v w h k = (coincide h k, refl)

pub no_state_tight : Determines (ended_of _ no_state.Kinds.ps no_state.Kinds.r) no_state.Reads.Learnt
no_state_tight κs a r q v w h k = (coincide h k, refl)

pub stores_tight : Determines (ended_of _ stores.Kinds.ps stores.Kinds.r) stores.Reads.Learnt
stores_tight κs a r q v w h k = (coincide h k, refl)

pub signed_tight : Determines (ended_of _ signed.Kinds.ps signed.Kinds.r) signed.Reads.Learnt
signed_tight κs a r q v w h k = (coincide h k, refl)

pub unsigned_tight : Determines (ended_of _ unsigned.Kinds.ps unsigned.Kinds.r) unsigned.Reads.Learnt
unsigned_tight κs a r q v w h k = (coincide h k, refl)

-- of any words W, so many, and any voice V, with its states S and its hands H; the rest is what the kit asks of each
module _ (W : _) (V : _) (N : _) (S : _) (H : _) (lw : _) (lv : _) (fits : _) (ls : _) (lh : _) (cv : _) (cs : _) (ch : _) where
  pub render_tight : (gw : _) (dw : _) (gs : _) (ds : _) (g : _) (d : _) (gv : _) (dv : _) (gh : _) (dh : _)
      → Determines (ended_of _ (render.Kinds.ps W V N S H lw lv fits ls lh cv cs ch) (render.Kinds.r W V N S H lw lv fits ls lh cv cs ch)) (render.Reads.Learnt W V N S H lw lv fits ls lh cv cs ch gw dw gs ds g d gv dv gh dh)
  render_tight gw dw gs ds g d gv dv gh dh κs a r q v w h k = let o = same_face (coincide h k) in (o.0, rw (o.1, o.2, o.3))
