-- `bank::on_silence` meets its contract: what is lent stands for a block of the record's length. Assumes nothing.
use mathlib.Core.Path.{refl, ◌∙◌, ap}
use native.Mathlib.Omega.{arith}
use Rattle.bank.specs.Bank.{Made}
use Rattle.bank.specs.Lent.{handed}
use Rattle.bank.proofs.LongBlocks.{lent_most, lent_part}
use Rattle.bank.proofs.on_silence.Goals as goal

pub slice_bounds-buffer-end : goal.slice_bounds-buffer-end
slice_bounds-buffer-end c = omega (arith, c.lent-e.ensures, lent_most c.args.n)

pub returns : goal.returns
returns c =
    let a = c.args in
    c.on_block.ensures ∙ ap (λ (m : Made). handed a.bank.now m a.out.now) (lent_part a.bank.now a.settings a.registration a.n _ 4097 refl c.lent-e.ensures)
