-- A sample of the variable shape: both ways are the definition's, with what it counts added. Assumes nothing.
use Rattle.std.proofs.Common.{rules}
use Rattle.block.proofs.Plays.{adding_none}
use Rattle.variable_shape.proofs.Keeping.{ready_of, keeps}
use Rattle.variable_shape.proofs.Places.{read}
use Rattle.variable_shape.proofs.voice.ParametersVoice.sample.Goals as goal

pub sample-made-requires-else-is_quiet : goal.sample-made-requires-else-is_quiet
sample-made-requires-else-is_quiet c =
    rw (read c.args.state c.args.steps c.args.self.phase_output (search rules) c.at-steps.ensures) (ready_of _ c.requires.valid c.args.self.phase_output _ c.requires.inside)

pub returns-then-is_quiet-clause-made : goal.returns-then-is_quiet-clause-made
returns-then-is_quiet-clause-made c =
    adding_none (search rules)
    c.sample-made.ensures.counts
    (rw (c.sample-made.ensures.made, read c.args.state c.args.steps c.args.self.phase_output (search rules) c.at-steps.ensures))

pub returns-else-is_quiet-clause-made : goal.returns-else-is_quiet-clause-made
returns-else-is_quiet-clause-made c = rw (c.sum.ensures, c.sample-made-else-is_quiet.ensures, read c.args.state c.args.steps c.args.self.phase_output (search rules) c.at-steps.ensures)

pub returns-then-is_quiet-clause-kept : goal.returns-then-is_quiet-clause-kept
returns-then-is_quiet-clause-kept c = keeps c.args.self.sync c.args.self.phase_output _ _ c.args.held c.requires.valid c.requires.inside

pub returns-else-is_quiet-clause-kept : goal.returns-else-is_quiet-clause-kept
returns-else-is_quiet-clause-kept c = keeps c.args.self.sync c.args.self.phase_output _ _ c.args.held c.requires.valid c.requires.inside
