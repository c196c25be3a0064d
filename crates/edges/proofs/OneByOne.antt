-- The code's loop around the crossings, which makes one crossing a turn: a rise or a fall. It comes to what the definition's does, with its two turns of
-- both. Assumes nothing.
use Rattle.std.proofs.Common.{◌≡◌, ℕ, ◌+◌, ◌<◌, Bool, true, false, cond, sym, refl, ap, ◌∙◌, true≢false, arith}
use lib.Ieee.{Float, lt}
use Rattle.floats.specs.F32.{one32}
use Rattle.edges.specs.declared.Edge.{Edge}
use Rattle.edges.specs.CrossingLoop.{Crosses}
use Rattle.edges.proofs.CrossingLoop.{looped, again, Going, Risen, stays_high, rises_low, now_high, ends_low, ends_high, going_on, below_again}

-- the loop has come from e₀ to e: after whole turns of the definition's, or after one's rise
pub data Come (x : Crosses) (e₀ : Edge) : Edge → Type 0 where
  turned : {e : Edge} → Going x e₀ e → Come x e₀ e
  rose : {e r : Edge} → Going x e₀ e → Risen x e r → Come x e₀ r

-- whether a rise can come before a fall does
abbrev pub may_rise : Edge → ℕ
may_rise e = cond e.high 0 1

-- so many crossings may follow, at most
abbrev pub left : Edge → ℕ
left e = again e + again e + may_rise e

-- a high one stands in the middle of a turn, and a low one at its start
record Half (x : Crosses) (e₀ r : Edge) : Type 0 where
  e : Edge
  going : Going x e₀ e
  risen : Risen x e r

-- what the loop's test tells
abbrev pub Stops : Float → Edge → Bool → Type 0
Stops width e t = cond e.high (lt e.phase one32) (lt e.phase width) ≡ t

pub tested : (e : Edge) {width width' : Float} {u t : Bool} → width ≡ width' → u ≡ cond e.high (lt e.phase one32) (lt e.phase width) → u ≡ t → Stops width' e t
tested e p q r = rw (← p) (sym q ∙ r)

module _ {x : Crosses} {e₀ e : Edge} where
  half : Come x e₀ e → e.high ≡ true → Half x e₀ e
  half (turned g) h = record { e = e; going = g; risen = stays_high (rw h) refl }
  half (rose g w) h = record { e = _; going = g; risen = w }

  low : Come x e₀ e → e.high ≡ false → Going x e₀ e
  low (turned g) h = g
  low (rose g w) h = absurd (true≢false (sym (now_high w) ∙ h))

  -- a fall
  module _ {f : Edge} (c : Come x e₀ e) (h : e.high ≡ true) (t : Stops x.width e false) (q : f ≡ x.fall e) where
    l : lt e.phase one32 ≡ false
    l = ap (λ (b : Bool). cond b (lt e.phase one32) (lt e.phase x.width)) (sym h) ∙ t

    pub comes_down : Come x e₀ f
    comes_down = let m = half c h in turned (going_on m.going m.risen l q)

    pub down_less : left f < left e
    down_less =
        let m = half c h in
        let a : again f ≡ 0 = rw (q, below_again m.going m.risen l) in
        let b : again e ≡ 1 = rw l in
        let n : may_rise f ≡ 1 = rw (q, (x.falls e).high) in
        omega (arith, a, b, n)

  -- a rise
  module _ {r : Edge} (c : Come x e₀ e) (h : e.high ≡ false) (t : Stops x.width e false) (q : r ≡ x.rise e) where
    pub comes_up : Come x e₀ r
    comes_up = rose (low c h) (rises_low (rw h) (ap (λ (b : Bool). cond b (lt e.phase one32) (lt e.phase x.width)) (sym h) ∙ t) q)

  -- and neither
  pub comes_to : Come x e₀ e → Stops x.width e true → e ≡ looped x e₀
  comes_to c l = go e.high refl l
    where
      go : (b : Bool) → e.high ≡ b → cond b (lt e.phase one32) (lt e.phase x.width) ≡ true → e ≡ looped x e₀
      go true h l = let m = half c h in ends_high m.going m.risen l
      go false h l = ends_low (low c h) (rw h) l
