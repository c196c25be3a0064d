-- `testing::record::words_at` meets its contract. The loop's invariant: the words below the index are read, and the rest of the record begins with the next one. Assumes nothing.
use Rattle.std.proofs.Common.{◌≡◌, ℕ, ◌+◌, ◌*◌, ◌<◌, drop, get_or, length}
use Rattle.testing.specs.Words.{word_at}
use Rattle.testing.proofs.record.words_at.Given as goal

abbrev pub invariant-loop-word : goal.invariant-loop-word
invariant-loop-word g l = record {
  count : length l.word-items ≡ g.row.N;
  next : l.rest ≡ drop (l.at + 4 * l.word-index) l.bytes;
  done : (k : ℕ) → k < l.word-index → get_or l.word-items k 0 ≡ word_at l.bytes (l.at + 4 * k);
}
