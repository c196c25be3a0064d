-- `wave::pcm::below_one` meets its contract: the digits over a power of two are rounded. Assumes nothing.
use mathlib.Core.Path.{refl, sym, ◌∙◌}
use native.Mathlib.Omega.{arith}
use Rattle.std.specs.Int.{w16}
use Rattle.std.proofs.lemmas.Int.{to_z_pos}
use Rattle.wave.proofs.Bits.{bits_low, below}
use Rattle.wave.proofs.pcm.below_one.Goals as goal

pub returns-then-field-lt110 : goal.returns-then-field-lt110
returns-then-field-lt110 c = sym (bits_low c.args.bits (omega arith) c.if-field-lt110.true)

pub overflow_cast-result : goal.overflow_cast-result
overflow_cast-result c =
    let small = (below c.args.bits _ _ _ c.requires c.if-field-lt110.false refl c.power.ensures.value c.round.ensures).1 in
    record { sfits = omega arith }

pub returns : goal.returns
returns c =
    let rounded = below c.args.bits _ _ _ c.requires c.if-field-lt110.false refl c.power.ensures.value c.round.ensures in
    to_z_pos w16 c.round.result (omega (arith, rounded.1)) ∙ rounded.0
