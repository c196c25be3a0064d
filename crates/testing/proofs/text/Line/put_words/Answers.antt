-- `testing::text::Line::put_words` meets its contract, word by word. Assumes nothing.
use Rattle.std.proofs.Common.{sym, ◌∙◌, ap}
use Rattle.testing.specs.Text.{words_of}
use Rattle.testing.proofs.Steps.{words_more, words_end, words_none}
use Rattle.testing.proofs.text.Line.put_words.Goals as goal

pub loop-word-preserved : goal.loop-word-preserved
loop-word-preserved g c =
    c.loop-word.invariant ∙ words_more g.row.N c.args.last c.in-Some.end.now c.in-Some.before.now c.loop-word.word-index _ c.loop-word-test.true ∙ ap (words_of _ _ _) (sym c.put_word.ensures)

pub returns-after-loop-word : goal.returns-after-loop-word
returns-after-loop-word g c =
    c.put_word-in-Some.ensures ∙ sym (c.loop-word.invariant ∙ words_end g.row.N c.args.last c.in-Some.end.now c.in-Some.before.now c.loop-word.word-index _ c.loop-word-test.false)

pub returns-in_default : goal.returns-in_default
returns-in_default g c = words_none g.row.N c.args.last c.args.words.now _ c.in_default.ensures.cases
