-- `jobs::nes` meets its contract: a step count of another form is refused. Assumes nothing.
use mathlib.Core.Path.{refl, sym, ap, ◌∙◌}
use Rattle.jobs.proofs.Plays.{plays, refuses}
use Rattle.jobs.specs.Record.{step_count_in, nes_of}
use Rattle.jobs.proofs.nes.Goals as goal

pub returns-then-not-step_count_in : goal.returns-then-not-step_count_in
unfolding nes_of
returns-then-not-step_count_in c =
    refuses _ (sym (ap step_count_in c.word_at-steps.ensures) ∙ sym c.step_count_in.ensures ∙ c.if-not-step_count_in.true)

pub returns : goal.returns
unfolding nes_of
returns c =
    plays (sym (ap step_count_in c.word_at-steps.ensures) ∙ sym c.step_count_in.ensures ∙ c.if-not-step_count_in.false) (rw (c.float_at.ensures, c.word_at-steps.ensures) refl)
