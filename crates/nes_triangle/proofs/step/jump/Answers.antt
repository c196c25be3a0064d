-- `nes_triangle::step::jump` meets its contract: a gain of 0 leaves no discontinuity. Assumes nothing.
use Rattle.std.proofs.Common.{T, sym, subst}
use Rattle.nes_triangle.proofs.Silent.{silent}
use Rattle.nes_triangle.proofs.step.jump.Goals as goal

pub returns-else-g : goal.returns-else-g
returns-else-g c =
    silent c.args.d.num_steps c.args.d.half _ _ _ _ _ (subst T (sym c.well_formed.1.0.1.1.0.1) tt) c.if-g.false
