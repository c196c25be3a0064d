-- `variable_shape::voice::glides` meets its contract. Assumes nothing.
use mathlib.Core.Bool.{and-true, and_assoc}
use Rattle.ranges.specs.Ranges.{all_of}
use Rattle.variable_shape.proofs.voice.glides.Goals as goal

pub returns : goal.returns
unfolding all_of
returns c =
    rw (and_assoc c.safe.result c.safe-2.result c.safe-3.result, c.new-5.ensures, c.new-4.ensures, c.new-3.ensures, c.new-2.ensures, c.new.ensures, c.safe-3.ensures, c.safe-2.ensures, c.safe.ensures, c.clamp_width-pw_target.ensures, c.clip-slave_target.ensures, c.clip-master_target.ensures, and-true)
