-- `wave::write` meets its contract: two refusals, and the stem. Assumes nothing.
use mathlib.Core.Path.{sym, ◌∙◌}
use Rattle.wave.proofs.Ways.{unfit_way, short_way, written_way}
use Rattle.wave.proofs.write.Goals as goal

pub returns-then-not-is_fit : goal.returns-then-not-is_fit
returns-then-not-is_fit c = unfit_way _ _ _ (sym c.is_fit.ensures ∙ c.if-not-is_fit.true)

pub returns-then-out-samples : goal.returns-then-out-samples
returns-then-out-samples c = short_way _ _ _ (sym c.is_fit.ensures ∙ c.if-not-is_fit.false) c.if-out-samples.true

pub returns : goal.returns
returns c = written_way _ _ _ (sym c.is_fit.ensures ∙ c.if-not-is_fit.false) _ c.if-out-samples.false c.put.ensures
