-- `classic::voice::glides` meets its contract, with a width that is stepped and without. Assumes nothing.
use Rattle.std.proofs.Common.{sym, ◌∙◌}
use mathlib.Core.Bool.{and-true}
use Rattle.ranges.specs.Ranges.{all_of}
use Rattle.classic.proofs.voice.glides.Goals as goal

pub returns-then-steps_width : goal.returns-then-steps_width
unfolding all_of
returns-then-steps_width c =
    rw (sym c.steps_width.ensures ∙ c.if-steps_width.true, c.safe-width_safe.ensures, c.new-opening.ensures, c.width-width.ensures, c.still-still.ensures, c.safe-safe.ensures, c.new-moving.ensures, c.frequency-target.ensures, and-true)

pub returns-else-steps_width : goal.returns-else-steps_width
unfolding all_of
returns-else-steps_width c =
    rw (sym c.steps_width.ensures ∙ c.if-steps_width.false, c.still-still.ensures, c.safe-safe.ensures, c.new-moving.ensures, c.frequency-target.ensures, and-true)
