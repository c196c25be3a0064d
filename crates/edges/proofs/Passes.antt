-- A sample with its crossings, from its parts: what comes before them, the crossings, and what comes after them. Assumes nothing.
use Rattle.std.proofs.Common.{◌≡◌, Bool, true, false, ◌&&◌, cond, refl}
use lib.Ieee.{Float, le}
use Rattle.floats.specs.F32.{◌⊖◌, one32}
use Rattle.floats.proofs.Bools.{cond_both}
use Rattle.edges.specs.declared.Edge.{Edge}
use Rattle.edges.specs.declared.crossing.Slave.{Slave}
use Rattle.edges.specs.declared.crossing.Start.{Start}
use Rattle.edges.specs.declared.crossing.Passed.{Passed}
use Rattle.edges.specs.Sync.{reset_of}
use Rattle.edges.specs.Synced.{step_of, reset_pass, plain_pass, passed_of}
use Rattle.edges.specs.Private.{Crossable, reset_start, plain_start, begun, crossed_if, left_at, end_of}
use Rattle.edges.proofs.CrossingsReset.{cut_crossable}

module _ (width : Float) (level : Float → Float) (crossed : Edge → Edge) (s : Slave) (f : Float) where
  -- each way is the definition's
  ways : (p : Float) (sync wraps : Bool)
      → (let b = cond (sync && wraps) (reset_start width level s (p ⊖ one32) f) (plain_start s p) in
      end_of sync b (crossed_if b.crosses crossed b.edge) ≡ cond (sync && wraps) (reset_pass width level crossed s (p ⊖ one32) f) (plain_pass sync crossed s p))
  unfolding reset_start plain_start left_at reset_of reset_pass plain_pass
  ways p true true = refl
  ways p true false = refl
  ways p false wraps = refl

  -- a sample, from what the functions that it calls ensure
  pub passed_is : (sync : Bool) (p : Float) {b : Start} {e : Edge} {r : Passed} → b ≡ begun sync width level s p f → e ≡ crossed_if b.crosses crossed b.edge
      → r ≡ end_of sync b e → r ≡ passed_of sync width level crossed s p f
  unfolding begun passed_of
  passed_is sync p at_b at-e at-r = rw (at-r, at-e, at_b) (ways p sync (le one32 p))

  -- the edge that it starts with, cut by a reset or not
  pub start_crossable : (sync : Bool) (p : Float) {b : Start} → b ≡ begun sync width level s p f → Crossable width (step_of s) → Crossable width b.edge
  unfolding begun reset_start plain_start
  start_crossable sync p at_b h =
      rw at_b
      (cond_both (λ (b : Start). Crossable width b.edge) (sync && le one32 p) _ _
      (cut_crossable _ _ h refl refl) h)
