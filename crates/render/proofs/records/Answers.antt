-- `render::records` meets its contract. The loop's invariant: the text is the lines of the first `k` records. Assumes nothing.
use mathlib.Core.List.{List}
use mathlib.Core.Path.{◌∙◌, ap}
use Prim.Native.Nat.{ℕ}
use native.Mathlib.Omega.{arith}
use Rattle.bank.specs.Bank.{record_played}
use Rattle.render.specs.Private.{said_of}
use Rattle.render.proofs.Loop.{running_start, running_more, running_end}
use Rattle.render.proofs.records.Goals as goal

pub loop-k-init : goal.loop-k-init
loop-k-init c = running_start _ _ _ _ c.start-bank.ensures c.requires.empty

pub loop-k-preserved : goal.loop-k-preserved
loop-k-preserved c =
    running_more _ _ _ _ _ c.loop-k.invariant _ _ c.loop-k-test.true
    (c.play-answer.ensures ∙ ap (λ (p : List ℕ). said_of (record_played c.loop-k.bank p)) c.record.ensures) c.line.ensures.text c.line.ensures.short

pub returns : goal.returns
returns c = running_end _ _ _ _ _ c.loop-k.invariant (omega arith)
