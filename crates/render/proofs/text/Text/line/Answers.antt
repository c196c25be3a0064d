-- `render::text::Text::line` meets its contract: eight numbers, one after the other. Assumes nothing.
use Rattle.std.proofs.Common.{◌≡◌, Result, Ok, Err, refl, ◌∙◌, append_assoc}
use Rattle.std.specs.Result.{result_unwrap_or}
use Rattle.block.specs.declared.refusal.Refusal.{Refusal}
use Rattle.block.specs.declared.Counts.{Counts}
use Rattle.block.specs.Counting.{no_counts}
use Rattle.block.specs.Calls.{counted}
use Rattle.render.specs.Line.{line_of}
use Rattle.render.proofs.text.Text.line.Goals as goal

-- a refused call counts nothing
counted_is : (answer : Result Counts Refusal) {none : Counts} → none ≡ no_counts → result_unwrap_or answer none ≡ counted answer
counted_is (Ok counts) h = refl
counted_is (Err refusal) h = h

pub returns-clause-text : goal.returns-clause-text
unfolding line_of
returns-clause-text c =
    let counts : c.unwrap_or-counts.result ≡ counted c.args.answer = c.unwrap_or-counts.ensures ∙ counted_is c.args.answer c.none.ensures in
    rw (c.number-9.ensures.text, c.number-8.ensures.text, c.number-7.ensures.text, c.number-6.ensures.text, c.number-5.ensures.text, c.number-4.ensures.text, c.number-3.ensures.text, c.number.ensures.text, c.late.ensures, c.number-2.ensures, c.index.ensures, counts) (simp append_assoc)
