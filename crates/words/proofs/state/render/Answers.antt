-- `words::state::render` meets its contract: the oscillator's own call, put into words. Assumes nothing.
use Rattle.std.proofs.Common.{sym, refl, ◌∙◌}
use Rattle.block.specs.Calls.{gave}
use Rattle.words.proofs.Faces.{read_is, face_is}
use Rattle.words.proofs.state.render.Goals as goal
use Rattle.words.proofs.state.render.Goals.{then-stores, else-stores}

pub returns : goal.returns
returns g c =
    let w = g.W.Words in
    let read = read_is (w.is_no_state c.args.words.now) (sym c.in-Some.is ∙ c.read.ensures) in
    let call = gave c.render-answer.result c.render-answer.new.state c.render-answer.new.out in
    rw (read.0, ← read.1)
    (face_is w.words_of c.args.words.now {c = call} c.render-answer.ensures c.stores.ensures refl
    (elim c.if-stores.branch [ then-stores t ↦ t.words-is ∙ rw (t.if-stores.true) t.write.ensures | else-stores t ↦ t.words-is ∙ rw (t.if-stores.false) refl ])
    c.result_of.ensures)
