-- `string_synth::sample::finish` meets its contract. Assumes nothing.
use Rattle.std.proofs.Common.{refl, lt_of_le_of_lt, lit<, w32}
use mir.ValLaws.{to_z_pos}
use Rattle.string_synth.specs.Sample.{finish}
use Rattle.string_synth.proofs.sample.finish.Goals as goal

pub returns : goal.returns
unfolding finish
returns c = rw (c.next_sample.ensures, to_z_pos w32 c.args.e.segment (lt_of_le_of_lt c.requires.segment_in_range (lit< tt))) refl
