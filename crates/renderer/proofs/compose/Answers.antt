-- `renderer::compose` meets its contract: the room that it lends is that of the longest text. Assumes nothing.
use borrow.Author.Rules.{rules}
use Rattle.io.proofs.Counting.{prefix_len_of_le}
use Rattle.render.proofs.Handing.{inside, whole_text}
use Rattle.renderer.proofs.compose.Goals as goal

pub returns-clause-prefix_len : goal.returns-clause-prefix_len
returns-clause-prefix_len c = rw c.count.ensures (prefix_len_of_le _ _ (inside c.render-written.result _ _ _ _ c.render-written.ensures))

pub returns-clause-text_after : goal.returns-clause-text_after
returns-clause-text_after c = rw c.count.ensures (whole_text c.render-written.result _ _ _ c.render-written.ensures (search rules))
