-- A sample of the super square: both ways are the definition's, with what it counts added. Assumes nothing.
use Rattle.std.proofs.Common.{rules, lit<}
use Rattle.rooms.proofs.Padding.{value_used}
use Rattle.block.proofs.Plays.{adding_none}
use Rattle.super_square.specs.Block.{rooms}
use Rattle.super_square.proofs.Keeping.{law_of, keeps}
use Rattle.super_square.proofs.voice.ParametersVoice.sample.Goals as goal

pub sample-made-requires-else-is_quiet : goal.sample-made-requires-else-is_quiet
sample-made-requires-else-is_quiet c =
    rw (value_used rooms c.args.steps 0 (lit< tt) (search rules), value_used rooms c.args.steps 1 (lit< tt) (search rules))
    (law_of _ _ c.requires.valid c.requires.inside).0

pub returns-then-is_quiet-clause-kept : goal.returns-then-is_quiet-clause-kept
returns-then-is_quiet-clause-kept c = keeps _ _ c.args.held c.requires.valid c.requires.inside

pub returns-else-is_quiet-clause-kept : goal.returns-else-is_quiet-clause-kept
returns-else-is_quiet-clause-kept c = keeps _ _ c.args.held c.requires.valid c.requires.inside

pub returns-then-is_quiet-clause-made : goal.returns-then-is_quiet-clause-made
returns-then-is_quiet-clause-made c =
    adding_none (search rules)
    c.sample-made.ensures.counts
    (rw (c.sample-made.ensures.made, value_used rooms c.args.steps 0 (lit< tt) (search rules), value_used rooms c.args.steps 1 (lit< tt) (search rules)))

pub returns-else-is_quiet-clause-made : goal.returns-else-is_quiet-clause-made
returns-else-is_quiet-clause-made c =
    rw (c.sum.ensures, c.sample-made-else-is_quiet.ensures, value_used rooms c.args.steps 0 (lit< tt) (search rules), value_used rooms c.args.steps 1 (lit< tt) (search rules))
