-- A reset before the crossing loop: it takes nothing off what the loop starts from, and the loop may then not run. Assumes nothing.
use Rattle.std.proofs.Common.{◌≡◌, Bool, true, false, cond, refl, arith}
use lib.Ieee.{Float}
use Rattle.edges.specs.declared.AtReset.{AtReset}
use Rattle.edges.specs.declared.Edge.{Edge}
use Rattle.edges.specs.Sync.{at_reset_of, cut_edge, reset_of}
use Rattle.edges.specs.CrossingLoop.{Crosses}
use Rattle.edges.specs.Private.{Crossable}
use Rattle.edges.proofs.CrossingLoop.{Counted, looped, crossed_of}

-- e is the start b with a cut
pub cut_crossable : {width : Float} (value time : Float) {a b e : Edge} → Crossable width a → b ≡ a → e ≡ cut_edge value time b → Crossable width e
cut_crossable value time k p q = rw (q, p) (record { narrow = k.narrow; phase = k.phase; none = k.none })

-- what it counts
pub reset_counted : (x : Crosses) (naive : Float → Float) (slavePhase slaveFrequency time : Float) (a : Edge) → Crossable x.width a
    → Counted a.high (reset_of x.width naive (looped x) slavePhase slaveFrequency time a)
unfolding reset_of
reset_counted x naive slavePhase slaveFrequency time a k = go found.transition
  where
    found : AtReset
    found = at_reset_of slavePhase a.high slaveFrequency x.width time

    e : Edge
    e = cut_edge (naive found.slave_phase) time a

    go : (t : Bool) → Counted a.high (cond t (looped x e) e)
    go true = (crossed_of x (cut_crossable _ _ k refl refl)).counted
    go false = record { rises = rw k.none (omega arith); falls = rw k.none (omega arith); balance = rw k.none refl }
