-- The classic oscillator's checks, in 01's order. Assumes nothing.
use Rattle.std.proofs.Common.{rules, refl, sym, ◌∙◌}
use Rattle.block.specs.Checks.{here, later}
use Rattle.classic.proofs.Calls.{valid_of}
use Rattle.classic.proofs.voice.ParametersVoice.check.Goals as goal

pub returns-then-not-state_in : goal.returns-then-not-state_in
returns-then-not-state_in c = (_, here (sym c.state_in.ensures ∙ c.if-not-state_in.true), refl, refl)

pub returns-then-not-parameters_in : goal.returns-then-not-parameters_in
returns-then-not-parameters_in c =
    (_, later (sym c.state_in.ensures ∙ c.if-not-state_in.false) (here (sym c.parameters_in.ensures ∙ c.if-not-parameters_in.true)), refl, refl)

pub returns : goal.returns
returns c =
    let p = sym c.state_in.ensures ∙ c.if-not-state_in.false in
    ((p, (sym c.parameters_in.ensures ∙ c.if-not-parameters_in.false, tt)), valid_of _ (search rules) p)
