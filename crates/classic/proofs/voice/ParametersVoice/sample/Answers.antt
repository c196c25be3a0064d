-- A sample of the classic oscillator: both ways are the definition's, with what it counts added. Assumes nothing.
use Rattle.std.proofs.Common.{rules, ap, ◌∙◌}
use Rattle.rooms.specs.Steps.{values}
use Rattle.rooms.proofs.Padding.{used, value_used}
use Rattle.rooms.proofs.Places.{place}
use Rattle.block.specs.Voices.{adding}
use Rattle.block.proofs.Plays.{adding_none}
use Rattle.classic.specs.Block.{rooms}
use Rattle.classic.proofs.Keeping.{keeps}
use Rattle.classic.proofs.Places.{enough, read}
use Rattle.classic.proofs.voice.ParametersVoice.sample.Goals as goal

pub returns-then-is_quiet-clause-made : goal.returns-then-is_quiet-clause-made
returns-then-is_quiet-clause-made c =
    let shape = c.args.self.shape in
    let steps = c.args.steps in
    adding_none (search rules)
    c.sample-made.ensures.counts
    (c.sample-made.ensures.made
    ∙ read shape c.args.state (values (used (rooms shape) steps)) (λ k. (place steps k).value) (λ k h. value_used (rooms shape) steps k h (enough shape (search rules))))

pub returns-else-is_quiet-clause-made : goal.returns-else-is_quiet-clause-made
returns-else-is_quiet-clause-made c =
    let shape = c.args.self.shape in
    let steps = c.args.steps in
    rw c.sum.ensures
    (ap (adding c.args.counts)
    (c.sample-made-else-is_quiet.ensures
    ∙ read shape c.args.state (values (used (rooms shape) steps)) (λ k. (place steps k).value) (λ k h. value_used (rooms shape) steps k h (enough shape (search rules)))))

pub returns-then-is_quiet-clause-kept : goal.returns-then-is_quiet-clause-kept
returns-then-is_quiet-clause-kept c = keeps c.args.self.shape _ _ c.args.held c.requires.valid c.requires.inside

pub returns-else-is_quiet-clause-kept : goal.returns-else-is_quiet-clause-kept
returns-else-is_quiet-clause-kept c = keeps c.args.self.shape _ _ c.args.held c.requires.valid c.requires.inside
