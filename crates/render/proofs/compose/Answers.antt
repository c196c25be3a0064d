-- `render::compose` meets its contract: the lines of every record, or the one line of a malformed list. Assumes nothing.
use mathlib.Core.Path.{sym, ◌∙◌}
use Rattle.render.proofs.Handing.{good_list, bad_list}
use Rattle.render.proofs.compose.Goals as goal

pub returns-then-is_job_list : goal.returns-then-is_job_list
returns-then-is_job_list c = c.records.ensures ∙ sym (good_list _ (sym c.is_job_list.ensures ∙ c.if-is_job_list.true))

pub returns-else-is_job_list : goal.returns-else-is_job_list
returns-else-is_job_list c = rw (c.number-else-is_job_list.ensures.text, c.requires, c.number.ensures) (sym (bad_list _ (sym c.is_job_list.ensures ∙ c.if-is_job_list.false)))
