-- `stems::compose` meets its contract: what is no rate and job list is refused, and of any other the sound is written. Assumes nothing.
use mathlib.Core.Path.{sym, ◌∙◌}
use Rattle.std.proofs.lemmas.Option.{MatchOption-at_none}
use Rattle.stems.proofs.Ways.{short_way, unlisted_way, answered_way}
use Rattle.stems.proofs.compose.Goals as goal

pub returns-in-Some : goal.returns-in-Some
returns-in-Some c = answered_way _ _ _ _ c.in-Some.ensures.cases _ _ (sym c.is_job_list.ensures ∙ c.if-is_job_list.true) c.from_le_bytes.ensures c.of_list.ensures

pub returns-in_default : goal.returns-in_default
returns-in_default c = unlisted_way _ _ _ _ c.in-Some.ensures.cases (sym c.is_job_list.ensures ∙ c.if-is_job_list.false)

pub returns-in_default-2 : goal.returns-in_default-2
returns-in_default-2 c = short_way _ _ (MatchOption-at_none _ _ c.in_default.is c.split_first_chunk.ensures.cases)
