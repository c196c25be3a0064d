-- `testing::text::Line::put_words` meets its contract. The loop's invariant: the words from there on make of the line so far what all make of the first. Assumes nothing.
use Rattle.std.proofs.Common.{◌≡◌, [], ◌∷◌, ◌++◌, drop}
use Rattle.testing.specs.Text.{words_of}
use Rattle.testing.proofs.text.Line.put_words.Given as goal

abbrev pub invariant-loop-word : goal.invariant-loop-word
invariant-loop-word g l =
    words_of g.row.N l.words l.last l.fn.self.bytes.items ≡ words_of g.row.N (drop l.word-index l.before ++ l.end ∷ []) l.last l.self.bytes.items
