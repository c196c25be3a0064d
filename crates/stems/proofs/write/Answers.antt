-- `stems::write` meets its contract: what `wave` refuses is refused, and else the stem has its length. Assumes nothing.
use Rattle.std.proofs.lemmas.Result.{err_from_is_err_and}
use Rattle.stems.proofs.Ways.{done_way, refused_way}
use Rattle.stems.proofs.write.Goals as goal

pub returns-in_err-write : goal.returns-in_err-write
returns-in_err-write c =
    let p = err_from_is_err_and c.from_residual.result c.from_residual.ensures.1 in
    rw (p.1, p.2) (refused_way _ _ _ _ _ c.write.ensures _ c.in_err-write.was)

pub returns : goal.returns
returns c = done_way _ _ _ _ _ c.write.ensures c.in_ok-write.was
