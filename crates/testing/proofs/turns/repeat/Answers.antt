-- `testing::turns::repeat` meets its contract: what a turn leaves may take another one. Assumes nothing.
use denote.Param.Always.{mut_next}
use Rattle.std.proofs.Common.{refl}
use Rattle.testing.proofs.Steps.{taken_more}
use Rattle.testing.proofs.turns.repeat.Goals as goal

pub loop-preserved : goal.loop-preserved
loop-preserved g c =
    let turn = c.if-not-turn.ensures in
    (mut_next g.F.FnMut _ _ _ _ _ turn refl c.loop.invariant.0, taken_more (goal.F-step g) c.loop.counter c.args.turn c.loop.turn c.turn.new.self c.loop.invariant.1 turn)
