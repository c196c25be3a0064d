-- `variable_saw::voice::glides` meets its contract. Assumes nothing.
use mathlib.Core.Bool.{and-true}
use Rattle.ranges.specs.Ranges.{all_of}
use Rattle.variable_saw.proofs.voice.glides.Goals as goal

pub returns : goal.returns
unfolding all_of
returns c =
    rw (c.still-2.ensures, c.still.ensures, c.new-3.ensures, c.new-2.ensures, c.new.ensures, c.safe-2.ensures, c.safe.ensures, c.clamp_width-width.ensures, c.clip-target.ensures, and-true)
