-- The loop around the two crossings wraps the phase once where it has come to 1, and never below it: so its falls, late or not, are the wraps. For any width
-- from 0 to below 1 and whatever a rise and a fall do to the samples. Assumes nothing.
use Rattle.std.proofs.Common.{◌≡◌, ℕ, suc, Bool, true, false, not, sym, refl, ap, ◌∙◌, subst, arith, le-ltb, le-leb}
use borrow.Author.Tests.{lt-leb}
use lib.Ieee.{Float, lt, le}
use Rattle.floats.specs.F32.{◌⊖◌, one32}
use Rattle.floats.proofs.Ticks.{cycle, one_at}
use Rattle.floats.proofs.At.{lt_at, le_at}
use Rattle.floats.proofs.Ranges.{passed_lt, failed_lt}
use Rattle.edges.specs.declared.Edge.{Edge}
use Rattle.block.specs.Counting.{one_if}
use Rattle.edges.specs.Sync.{wrap_once}
use Rattle.edges.specs.CrossingLoop.{Crosses}
use Rattle.edges.specs.Private.{Crossable}
use Rattle.edges.proofs.CrossingLoop.{looped, turns_of, Risen, going_start, stays_high, rises_low, stop_low, stop_high, turn_on, same_phase, same_falls, below_again, one_fall}
use Rattle.edges.proofs.Totals.{every_fall}

-- from e to r the phase wraps at most once, and each wrap is a fall
pub record Wraps (e r : Edge) : Type 0 where
  pub phase : r.phase ≡ wrap_once e.phase
  pub falls : every_fall r.crossings ≡ one_if (le one32 e.phase)

-- r has the phase and the falls of e
record Same (e r : Edge) : Type 0 where
  phase : r.phase ≡ e.phase
  falls : every_fall r.crossings ≡ every_fall e.crossings

-- r, after the first half of a turn, lies below 1 or not, as e does
now : {x : Crosses} {e r : Edge} {b : Bool} → Risen x e r → lt e.phase one32 ≡ b → lt r.phase one32 ≡ b
now w l = ap (λ (p : Float). lt p one32) (same_phase w) ∙ l

-- below 1 a turn takes nothing off, and it is the last
below : (x : Crosses) (e : Edge) (k : ℕ) → lt e.phase one32 ≡ true → Same e (turns_of x (suc k) e)
below x e k l = go (not e.high) (lt e.phase x.width) refl refl
  where
    rose : {r : Edge} → Risen x e r → Same e (turns_of x (suc k) e)
    rose w = subst (Same e) (sym (stop_high w k (now w l))) (record { phase = same_phase w; falls = same_falls w })

    go : (b c : Bool) → not e.high ≡ b → lt e.phase x.width ≡ c → Same e (turns_of x (suc k) e)
    go false c h q = rose (stays_high h refl)
    go true true h q = subst (Same e) (sym (stop_low x e k h q)) (record { phase = refl; falls = refl })
    go true false h q = rose (rises_low h q refl)

module _ (x : Crosses) {e : Edge} (h : Crossable x.width e) where
  -- from 1 up the first turn falls, and the second is the last
  above : lt e.phase one32 ≡ false → Wraps e (looped x e)
  above l = go (not e.high) refl
    where
      rose : {r : Edge} → Risen x e r → Wraps e (looped x e)
      rose {r} w =
          let b = below x (x.fall r) 0 (below_again (going_start h) w (now w l)) in
          let t : le one32 e.phase ≡ true = le_at one_at h.phase.at ∙ le-leb cycle h.phase.n (failed_lt h.phase.at one_at l) in
          subst (Wraps e) (sym (turn_on w 1 (now w l)))
          (record {
            phase = b.phase ∙ (x.falls r).phase ∙ ap (λ (p : Float). p ⊖ one32) (same_phase w) ∙ rw t;
            falls = b.falls ∙ one_fall (going_start h) w (now w l) ∙ rw t;
          })

      go : (b : Bool) → not e.high ≡ b → Wraps e (looped x e)
      go false k = rose (stays_high k refl)
      go true k =
          rose
          (rises_low k (lt_at h.phase.at h.narrow.at ∙ le-ltb h.phase.n h.narrow.n (omega (arith, failed_lt h.phase.at one_at l, h.narrow.under))) refl)

  pub loop_wraps : Wraps e (looped x e)
  loop_wraps = go (lt e.phase one32) refl
    where
      go : (b : Bool) → lt e.phase one32 ≡ b → Wraps e (looped x e)
      go false l = above l
      go true l =
          let s = below x e 1 l in
          let t : le one32 e.phase ≡ false = le_at one_at h.phase.at ∙ lt-leb cycle h.phase.n (passed_lt h.phase.at one_at l) in
          record { phase = s.phase ∙ rw t; falls = s.falls ∙ rw (h.none, t) }
