-- `rooms::first_outside` meets its contract: the laws of its two loops are in `Walks`, and that the unused places change nothing in `Padding`. Assumes nothing.
use Rattle.std.proofs.Common.{◌∙◌, sym}
use Rattle.rooms.proofs.Padding.{walk_front}
use Rattle.rooms.proofs.Walks.{moving_start, moving_more, moving_out, moving_end, walked_end, walked_out, walked_more}
use Rattle.rooms.proofs.first_outside.Goals as goal

pub loop-k-init : goal.loop-k-init
loop-k-init c = let w = c.loop-i.invariant in moving_start w.2.most w.1

pub loop-k-preserved : goal.loop-k-preserved
loop-k-preserved c =
    moving_more c.loop-k.invariant _ _ _ _ c.loop-k-test.true c.next-p.ensures c.in_room.ensures c.if-not-in_room.false-raw

pub loop-i-preserved : goal.loop-i-preserved
loop-i-preserved c =
    let w = c.loop-i.invariant in
    let m = c.loop-k.invariant in
    let e = moving_end m c.loop-k-test.false in
    (walked_more _ _ _ _ _ w.0 c.loop-i-test.true _ e.0 e.1, m.enough, w.2)

pub returns-then-not-in_room : goal.returns-then-not-in_room
returns-then-not-in_room c =
    let w = c.loop-i.invariant in
    walked_out _ _ _ _ _ w.0 c.loop-i-test.true
    (moving_out c.loop-k.invariant _ _ _ _ c.loop-k-test.true c.next-p.ensures c.in_room.ensures c.if-not-in_room.true-raw)
    ∙ sym (walk_front _ _ w.2)

pub returns : goal.returns
returns c = let w = c.loop-i.invariant in walked_end _ _ _ _ _ w.0 c.loop-i-test.false ∙ sym (walk_front _ _ w.2)
