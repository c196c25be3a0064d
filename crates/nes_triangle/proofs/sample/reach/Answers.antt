-- `nes_triangle::sample::reach` meets its contract: each way of the test is the definition's. Assumes nothing.
use Rattle.std.proofs.Common.{sym, ◌∙◌}
use Rattle.nes_triangle.proofs.Stepping.{turnable}
use Rattle.nes_triangle.proofs.Reaching.{reach_still, reach_turned}
use Rattle.nes_triangle.proofs.sample.reach.Goals as goal

pub turn-requires : goal.turn-requires
turn-requires c =
    turnable _ _ _ c.requires _ c.whole_part-whole.ensures

pub returns-then-on_step : goal.returns-then-on_step
returns-then-on_step c =
    reach_still _ _ _ _ c.peak-x.ensures c.whole_part-whole.ensures (sym c.on_step.ensures ∙ c.if-on_step.true) c.come_to.ensures

pub returns-else-on_step : goal.returns-else-on_step
returns-else-on_step c =
    reach_turned _ _ _ _ c.peak-x.ensures c.whole_part-whole.ensures (sym c.on_step.ensures ∙ c.if-on_step.false) c.turn.ensures
