-- `block::voice::play` meets its contract: the loop's law is in `Turns`. Assumes nothing.
use Rattle.std.proofs.Common.{arith}
use Rattle.block.proofs.Turns.{turning_inside, turning_added, turning_end}
use Rattle.block.proofs.voice.play.Goals as goal

pub sample-made-requires-clause-inside : goal.sample-made-requires-clause-inside
sample-made-requires-clause-inside g c =
    let inv = c.loop-sample.invariant.0 in
    turning_inside inv (omega (arith, c.loop-sample-test.true, inv.long)) c.advance-next.ensures

pub loop-sample-preserved : goal.loop-sample-preserved
loop-sample-preserved g c =
    let inv = c.loop-sample.invariant.0 in
    (turning_added inv (omega (arith, c.loop-sample-test.true, inv.long)) c.advance-next.ensures c.sample-made.ensures.kept c.sample-made.ensures.made, c.sample-made.ensures.hand)

pub returns : goal.returns
returns g c =
    let inv = c.loop-sample.invariant.0 in
    turning_end inv (omega (arith, c.loop-sample-test.false, inv.long))
