-- `bank::on_block` meets its contract: the samples of an answered call are handed over where they fit. Assumes nothing.
use Rattle.std.proofs.Common.{◌∙◌, ap}
use Rattle.std.proofs.lemmas.Result.{err_from_is_err_and}
use Rattle.bank.specs.Bank.{Made}
use Rattle.bank.specs.Lent.{handed}
use Rattle.bank.proofs.Lending.{refused_way, long_way, room_way}
use Rattle.bank.proofs.on_block.Goals as goal

pub returns-in_err-counts : goal.returns-in_err-counts
returns-in_err-counts c =
    let p = err_from_is_err_and c.from_residual.result c.from_residual.ensures.1 in
    rw (p.1, p.2) (refused_way c.args.bank.now c.by_kind.new.bank c.by_kind.new.out c.args.out.now c.in_err-counts.field-0.0 ∙ ap (λ (m : Made). handed c.args.bank.now m c.args.out.now) c.in_err-counts.ensures)

pub returns-then-n-out : goal.returns-then-n-out
returns-then-n-out c =
    long_way c.args.bank.now c.by_kind.new.bank c.by_kind.new.out c.args.out.now c.in_ok-counts.counts c.if-n-out.true ∙ ap (λ (m : Made). handed c.args.bank.now m c.args.out.now) c.in_ok-counts.ensures

pub returns : goal.returns
returns c =
    rw c.copy_from_slice.ensures.after
    (room_way c.args.bank.now c.by_kind.new.bank c.by_kind.new.out c.args.out.now c.in_ok-counts.counts c.if-n-out.false ∙ ap (λ (m : Made). handed c.args.bank.now m c.args.out.now) c.in_ok-counts.ensures)
