-- `string_synth::sample::reach` meets its contract: within the segment or into another, as the definition tests. Assumes nothing.
use Rattle.string_synth.proofs.Segments.{reach_is}
use Rattle.string_synth.proofs.sample.reach.Goals as goal

pub returns-then-in_segment : goal.returns-then-in_segment
returns-then-in_segment c =
    reach_is _ _ _ _ _ c.whole_part-whole.ensures c.in_segment.ensures (rw c.if-in_segment.true c.stay.ensures)

pub returns-else-in_segment : goal.returns-else-in_segment
returns-else-in_segment c =
    reach_is _ _ _ _ _ c.whole_part-whole.ensures c.in_segment.ensures (rw c.if-in_segment.false c.cross.ensures)
