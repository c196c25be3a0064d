-- The string synth's checks, in 01's order. Assumes nothing.
use Rattle.std.proofs.Common.{rules, not, refl, sym, ap, ◌∙◌, eq-eqb, ne_eqb}
use Rattle.block.specs.Checks.{here, later}
use Rattle.string_synth.proofs.Calls.{valid_of}
use Rattle.string_synth.proofs.voice.ParametersVoice.check.Goals as goal

pub returns-then-self-ne7 : goal.returns-then-self-ne7
returns-then-self-ne7 c = (_, here (ne_eqb _ _ c.if-self-ne7.true), refl, refl)

pub returns-then-not-state_in : goal.returns-then-not-state_in
returns-then-not-state_in c = (_, later (eq-eqb _ _ c.if-self-ne7.false) (here (sym c.state_in.ensures ∙ c.if-not-state_in.true)), refl, refl)

pub returns-then-not-parameters_in : goal.returns-then-not-parameters_in
returns-then-not-parameters_in c =
    (_, later (eq-eqb _ _ c.if-self-ne7.false) (later (sym c.state_in.ensures ∙ c.if-not-state_in.false) (here (sym c.parameters_in.ensures ∙ c.if-not-parameters_in.true))), refl, refl)

pub returns-then-self : goal.returns-then-self
returns-then-self c =
    (_, later (eq-eqb _ _ c.if-self-ne7.false) (later (sym c.state_in.ensures ∙ c.if-not-state_in.false) (later (sym c.parameters_in.ensures ∙ c.if-not-parameters_in.false) (here (ap not c.if-self.true)))), refl, refl)

pub returns : goal.returns
returns c =
    let p = sym c.state_in.ensures ∙ c.if-not-state_in.false in
    ((eq-eqb _ _ c.if-self-ne7.false, (p, (sym c.parameters_in.ensures ∙ c.if-not-parameters_in.false, (ap not c.if-self.false, tt)))), valid_of _ (search rules) p)
