-- `nes_triangle::voice::glides` meets its contract. Assumes nothing.
use mathlib.Core.Bool.{and-true}
use Rattle.ranges.specs.Ranges.{all_of}
use Rattle.nes_triangle.proofs.voice.glides.Goals as goal

pub returns : goal.returns
unfolding all_of
returns c =
    rw (c.still-4.ensures, c.still-3.ensures, c.still-2.ensures, c.still.ensures, c.new.ensures, c.safe-safe.ensures, c.min-target.ensures, and-true)
