-- `classic::quiet::turns` meets its contract: each arm is the definition's. Assumes nothing.
use Rattle.std.proofs.Common.{rules}
use mathlib.Core.Bool.{xor}
use Rattle.classic.proofs.quiet.turns.Goals as goal

pub returns-in-Triangle : goal.returns-in-Triangle
unfolding xor
returns-in-Triangle c = search rules

pub returns-in_default : goal.returns-in_default
unfolding xor
returns-in_default c = search rules
