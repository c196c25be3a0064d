-- `render::form::looks_like_text` meets its contract. Assumes nothing.
use Rattle.render.proofs.form.looks_like_text.Goals as goal

pub returns : goal.returns
returns c = rw c.all_text.ensures
