-- `classic_face::init` meets its contract: the classic oscillator's own start, put into words. Assumes nothing.
use Rattle.std.proofs.Common.{List, ℕ, refl, ap, ◌∙◌}
use Rattle.words.proofs.Faces.{stored_if}
use Rattle.block.specs.Answers.{number_of}
use Rattle.classic_face.specs.Words.{words_of, start_of}
use Rattle.classic_face.proofs.init.Goals as goal
use Rattle.classic_face.proofs.init.Goals.{then-is_ok, else-is_ok}

pub returns : goal.returns
unfolding start_of
returns c =
    let start = rw c.state_of-state.ensures at c.init-answer.ensures in
    rw (c.number.ensures, ← start)
    (ap (λ (words : List ℕ). record { words = words; number = number_of c.init-answer.result })
    (stored_if c.init-answer.result (words_of c.init-answer.new.state) c.args.words.now c.is_ok.ensures.value
    (elim c.if-is_ok.branch [ then-is_ok t ↦ t.words-is ∙ rw t.if-is_ok.true t.words_of.ensures | else-is_ok t ↦ t.words-is ∙ rw t.if-is_ok.false refl ])))
