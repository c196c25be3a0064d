-- `stems::sound::lay` meets its contract. The loop's invariant: the samples of the first `k` records are laid. Assumes nothing.
use Rattle.stems.proofs.Laying.{laying_more, laying_end, laying_full}
use Rattle.stems.proofs.sound.lay.Goals as goal

pub loop-k-preserved : goal.loop-k-preserved
loop-k-preserved c =
    laying_more _ _ _ _ _ _ _ _ c.loop-k.invariant _ _ _ _ _ c.loop-k-test.true c.if-at-gt-MOST_SAMPLES.false c.record-part.ensures c.play-answer.ensures c.left-at.ensures.value

pub returns-after-loop-k : goal.returns-after-loop-k
returns-after-loop-k c = laying_end _ _ _ _ _ _ _ _ c.loop-k.invariant c.loop-k-test.false

pub returns-then-at-gt-MOST_SAMPLES : goal.returns-then-at-gt-MOST_SAMPLES
returns-then-at-gt-MOST_SAMPLES c = laying_full _ _ _ _ _ _ _ _ c.loop-k.invariant c.if-at-gt-MOST_SAMPLES.true
