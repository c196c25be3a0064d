-- `variable_shape_face::set_master_phase` meets its contract: the variable shape's own setting, put into one word. Assumes nothing.
use Rattle.std.proofs.Common.{List, ℕ, set, refl, ap, ◌∙◌}
use Rattle.words.specs.Face.{bits_of}
use Rattle.words.proofs.Faces.{stored_if}
use Rattle.block.specs.Answers.{number_of}
use Rattle.variable_shape_face.specs.Words.{set_of}
use Rattle.variable_shape_face.proofs.set_master_phase.Goals as goal
use Rattle.variable_shape_face.proofs.set_master_phase.Goals.{then-is_ok, else-is_ok}

pub returns : goal.returns
unfolding set_of
returns c =
    let setting = rw c.state_of-state.ensures at c.set_master_phase_in-answer.ensures in
    rw (c.number.ensures, ← setting)
    (ap (λ (words : List ℕ). record { words = words; number = number_of c.set_master_phase_in-answer.result })
    (stored_if c.set_master_phase_in-answer.result (set c.args.words.now 0 (bits_of c.set_master_phase_in-answer.new.state.master_phase)) c.args.words.now c.is_ok.ensures.value
    (elim c.if-is_ok.branch [ then-is_ok t ↦ t.words-is ∙ rw (t.if-is_ok.true, t.to_bits.ensures) refl | else-is_ok t ↦ t.words-is ∙ rw t.if-is_ok.false refl ])))
