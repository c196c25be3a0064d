-- `block::voice::render` meets its contract: each way out is the definition's. Assumes nothing.
use Rattle.std.proofs.Common.{length, sym, ap, ◌∙◌}
use borrow.Author.Tests.{le-leb, lt-leb}
use Rattle.std.proofs.lemmas.Result.{err_from_is_err_and}
use Rattle.block.specs.Checks.{here, later}
use Rattle.block.specs.Calls.{done}
use Rattle.block.proofs.Runs.{run_drift, run_done, found_is}
use Rattle.block.proofs.Ways.{failing, passing}
use Rattle.block.proofs.voice.render.Goals as goal

pub returns-then-out-gt4096 : goal.returns-then-out-gt4096
returns-then-out-gt4096 g c = sym (failing _ _ _ (here (lt-leb _ _ c.if-out-gt4096.true)))

pub returns-in_err-check : goal.returns-in_err-check
returns-in_err-check g c =
    let p = err_from_is_err_and c.from_residual.result c.from_residual.ensures.1 in
    let k = c.in_err-check.ensures in
    rw (p.1, p.2) (rw (← k.2, ← k.3) (sym (failing _ _ _ (later (le-leb _ _ c.if-out-gt4096.false) k.1))))

pub returns-in-Some : goal.returns-in-Some
returns-in-Some g c =
    let ok = c.in_ok-check.ensures in
    let found = found_is _ _ (length c.args.out.now) c.places.ensures c.glides-glides.ensures.moving c.glides-glides.ensures.safe c.find_drift.ensures in
    sym (passing _ _ _ _ (le-leb _ _ c.if-out-gt4096.false, ok.0) ∙ run_drift _ _ _ _ _ _ (sym found ∙ c.in-Some.is))

pub play-requires-clause-playable : goal.play-requires-clause-playable
play-requires-clause-playable g c =
    let found = found_is _ _ (length c.args.out.now) c.places.ensures c.glides-glides.ensures.moving c.glides-glides.ensures.safe c.find_drift.ensures in
    record { fit = record { short = c.if-out-gt4096.false; valid = c.in_ok-check.ensures.1 }; inside = rw c.glides-glides.ensures.moving (sym found ∙ c.in_default.is) }

pub returns : goal.returns
returns g c =
    let ok = c.in_ok-check.ensures in
    let found = found_is _ _ (length c.args.out.now) c.places.ensures c.glides-glides.ensures.moving c.glides-glides.ensures.safe c.find_drift.ensures in
    let played = rw c.glides-glides.ensures.moving at c.play.ensures in
    ap done played ∙ sym (passing _ _ _ _ (le-leb _ _ c.if-out-gt4096.false, ok.0) ∙ run_done _ _ _ _ _ (sym found ∙ c.in_default.is))
