-- A sample of the variable saw: both ways are the definition's, with what it counts added. Assumes nothing.
use Rattle.std.proofs.Common.{rules, lit<}
use Rattle.rooms.proofs.Padding.{value_used}
use Rattle.block.proofs.Plays.{adding_none}
use Rattle.variable_saw.specs.Block.{rooms}
use Rattle.variable_saw.proofs.Keeping.{keeps}
use Rattle.variable_saw.proofs.voice.ParametersVoice.sample.Goals as goal

pub returns-then-is_quiet-clause-made : goal.returns-then-is_quiet-clause-made
returns-then-is_quiet-clause-made c =
    let p = c.args.steps in
    adding_none (search rules)
    c.sample-made.ensures.counts
    (rw (c.sample-made.ensures.made, value_used rooms p 0 (lit< tt) (search rules), value_used rooms p 1 (lit< tt) (search rules), value_used rooms p 2 (lit< tt) (search rules)))

pub returns-else-is_quiet-clause-made : goal.returns-else-is_quiet-clause-made
returns-else-is_quiet-clause-made c =
    let p = c.args.steps in
    rw (c.sum.ensures, c.sample-made-else-is_quiet.ensures, value_used rooms p 0 (lit< tt) (search rules), value_used rooms p 1 (lit< tt) (search rules), value_used rooms p 2 (lit< tt) (search rules))

pub returns-then-is_quiet-clause-kept : goal.returns-then-is_quiet-clause-kept
returns-then-is_quiet-clause-kept c = keeps _ _ c.args.held c.requires.valid c.requires.inside

pub returns-else-is_quiet-clause-kept : goal.returns-else-is_quiet-clause-kept
returns-else-is_quiet-clause-kept c = keeps _ _ c.args.held c.requires.valid c.requires.inside
