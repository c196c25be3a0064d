-- A sample of the NES triangle: both ways are the definition's, with what it counts added; and what is at hand goes with the state. Assumes nothing.
use Rattle.std.proofs.Common.{rules, sym, ◌∙◌, lit<}
use Rattle.rooms.proofs.Padding.{value_used}
use Rattle.block.proofs.Plays.{adding_none}
use Rattle.nes_triangle.specs.Block.{rooms}
use Rattle.nes_triangle.proofs.Keeping.{keeps, ready_at, kept_at}
use Rattle.nes_triangle.proofs.Held.{holdable, quiet_holds}
use Rattle.nes_triangle.proofs.voice.ParametersVoice.sample.Goals as goal

pub sample-made-requires-clause-ready : goal.sample-made-requires-clause-ready
sample-made-requires-clause-ready c = ready_at c.requires.hand.0 (value_used rooms c.args.steps 0 (lit< tt) (search rules)) c.requires.valid c.requires.inside

pub sample-made-requires-else-is_quiet : goal.sample-made-requires-else-is_quiet
sample-made-requires-else-is_quiet c = ready_at c.requires.hand.0 (value_used rooms c.args.steps 0 (lit< tt) (search rules)) c.requires.valid c.requires.inside

pub hold-hand-requires : goal.hold-hand-requires
hold-hand-requires c =
    holdable c.requires.hand.0 (kept_at c.requires.hand.0 (value_used rooms c.args.steps 0 (lit< tt) (search rules)) c.requires.valid c.requires.inside c.sample-made-else-is_quiet.ensures).ok

pub returns-then-is_quiet-clause-hand : goal.returns-then-is_quiet-clause-hand
returns-then-is_quiet-clause-hand c =
    let ready = ready_at c.requires.hand.0 (value_used rooms c.args.steps 0 (lit< tt) (search rules)) c.requires.valid c.requires.inside in
    (c.requires.hand.0, quiet_holds ready c.requires.hand.1 (sym c.is_quiet.ensures ∙ c.if-is_quiet.true) c.sample-made.ensures.made)

pub returns-then-is_quiet-clause-kept : goal.returns-then-is_quiet-clause-kept
returns-then-is_quiet-clause-kept c = keeps _ _ _ c.args.held c.requires.valid c.requires.inside

pub returns-else-is_quiet-clause-kept : goal.returns-else-is_quiet-clause-kept
returns-else-is_quiet-clause-kept c = keeps _ _ _ c.args.held c.requires.valid c.requires.inside

pub returns-then-is_quiet-clause-made : goal.returns-then-is_quiet-clause-made
returns-then-is_quiet-clause-made c =
    adding_none (search rules)
    c.sample-made.ensures.counts
    (rw (c.sample-made.ensures.made, c.requires.hand.0, value_used rooms c.args.steps 0 (lit< tt) (search rules)))

pub returns-else-is_quiet-clause-made : goal.returns-else-is_quiet-clause-made
returns-else-is_quiet-clause-made c =
    rw (c.sum.ensures, c.sample-made-else-is_quiet.ensures, c.requires.hand.0, value_used rooms c.args.steps 0 (lit< tt) (search rules))
