-- `wave::pcm::round` meets its contract, in the definition's order. Assumes nothing.
use mathlib.Core.Path.{sym}
use Rattle.wave.proofs.Rounded.{a_tie, below_half, above_half}
use Rattle.wave.proofs.pcm.round.Goals as goal

pub returns-then-left-unit : goal.returns-then-left-unit
returns-then-left-unit c = let a = c.args in sym (a_tie a.v a.unit c.if-left-unit.true)

pub returns-then-left-unit-2 : goal.returns-then-left-unit-2
returns-then-left-unit-2 c = let a = c.args in sym (below_half a.v a.unit c.if-left-unit-2.true)

pub returns-else-left-unit-2 : goal.returns-else-left-unit-2
returns-else-left-unit-2 c = let a = c.args in sym (above_half a.v a.unit c.if-left-unit.false c.if-left-unit-2.false)
