-- `string_synth::voice::glides` meets its contract. Assumes nothing.
use mathlib.Core.Bool.{and-true}
use Rattle.ranges.specs.Ranges.{all_of}
use Rattle.string_synth.proofs.voice.glides.Goals as goal

pub returns : goal.returns
unfolding all_of
returns c =
    rw (c.new-5.ensures, c.new-4.ensures, c.new-3.ensures, c.new-2.ensures, c.new.ensures, c.safe-safe.ensures) (simp and-true)
