-- `render::records` meets its contract. The loop's invariant: the text is the lines of the first `k` records. Assumes nothing.
use Prim.Native.Nat.{◌/◌}
use lib.ListN.{length}
use Rattle.render.proofs.Loop.{Running}
use Rattle.render.proofs.records.Given as goal

abbrev pub invariant-loop-k : goal.invariant-loop-k
invariant-loop-k l = Running l.list (length l.list / 64) l.text.bytes.items l.bank l.k
