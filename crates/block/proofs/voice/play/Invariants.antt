-- `block::voice::play` meets its contract: the loop's law is in `Turns`. Assumes nothing.
use Rattle.block.proofs.Turns.{Turning}
use Rattle.block.proofs.voice.play.Given as goal

abbrev pub invariant-loop-sample : goal.invariant-loop-sample
invariant-loop-sample g l =
    let v = g.V.Voice in
    Turning (v.make l.voice) (v.rooms l.voice) (v.valid l.voice) l.initial.s l.initial.moving l.initial.out l.s l.moving l.counts l.out l.sample-index × v.fits l.voice l.s l.hand
