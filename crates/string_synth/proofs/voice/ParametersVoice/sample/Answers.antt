-- A sample of the string synth: both ways are the definition's, with what it counts added; and the starts at hand are those of the state's segment. Assumes nothing.
use Rattle.std.proofs.Common.{rules, sym, ◌∙◌, lit<}
use Rattle.rooms.proofs.Padding.{value_used}
use Rattle.block.proofs.Plays.{adding_none}
use Rattle.string_synth.specs.Block.{rooms}
use Rattle.string_synth.proofs.Keeping.{keeps}
use Rattle.string_synth.proofs.Segments.{reached_small}
use Rattle.string_synth.proofs.Stays.{cast_segment, quiet_starts, sampled_segment}
use Rattle.string_synth.proofs.voice.ParametersVoice.sample.Goals as goal

pub overflow_cast-made : goal.overflow_cast-made
overflow_cast-made c = cast_segment (sampled_segment _ _ _ c.sample-made-else-is_quiet.ensures) (reached_small _ _)

pub returns-then-is_quiet-clause-hand : goal.returns-then-is_quiet-clause-hand
returns-then-is_quiet-clause-hand c = quiet_starts _ _ _ c.requires.valid c.requires.hand (sym c.is_quiet.ensures ∙ c.if-is_quiet.true) _ c.sample-made.ensures.made

pub returns-then-is_quiet-clause-kept : goal.returns-then-is_quiet-clause-kept
returns-then-is_quiet-clause-kept c = keeps _ _ c.args.held c.requires.valid c.requires.inside

pub returns-else-is_quiet-clause-kept : goal.returns-else-is_quiet-clause-kept
returns-else-is_quiet-clause-kept c = keeps _ _ c.args.held c.requires.valid c.requires.inside

pub returns-then-is_quiet-clause-made : goal.returns-then-is_quiet-clause-made
returns-then-is_quiet-clause-made c =
    adding_none (search rules)
    c.sample-made.ensures.counts
    (rw (
      c.sample-made.ensures.made,
      value_used rooms c.args.steps 0 (lit< tt) (search rules),
      value_used rooms c.args.steps 1 (lit< tt) (search rules),
      value_used rooms c.args.steps 2 (lit< tt) (search rules),
      value_used rooms c.args.steps 3 (lit< tt) (search rules),
      value_used rooms c.args.steps 4 (lit< tt) (search rules),
    ))

pub returns-else-is_quiet-clause-made : goal.returns-else-is_quiet-clause-made
returns-else-is_quiet-clause-made c =
    rw (
      c.sum.ensures,
      c.sample-made-else-is_quiet.ensures,
      value_used rooms c.args.steps 0 (lit< tt) (search rules),
      value_used rooms c.args.steps 1 (lit< tt) (search rules),
      value_used rooms c.args.steps 2 (lit< tt) (search rules),
      value_used rooms c.args.steps 3 (lit< tt) (search rules),
      value_used rooms c.args.steps 4 (lit< tt) (search rules),
    )
