-- `render::text::Text::decimal` meets its contract: the digits are the definition's, and there is room for them. Assumes nothing.
use Rattle.std.specs.Prelude.{Result, Ok, Err, IsOk, OnOk}
use Rattle.std.proofs.Common.{◌≡◌, length, take, ap, ◌∙◌, arith}
use Rattle.render.specs.Line.{decimal_of}
use Rattle.render.proofs.Digits.{decimal_text, decimal_long}
use Rattle.render.proofs.text.Text.decimal.Goals as goal

given : {T E P : Type 0} (r : Result T E) → IsOk r → OnOk r P → P
given (Ok x) h p = p
given (Err e) h p = absurd (cc)

pub returns : goal.returns
returns c =
    let text : take c.decimal-k.result c.decimal-k.new.out ≡ decimal_of c.args.n = c.decimal-k.ensures.digits ∙ decimal_text _ _ (omega arith) c.decimal-k.ensures.len ∙ ap decimal_of c.from.ensures in
    let fits = c.try_extend_from_slice.ensures.variant.1 (omega (arith, ap length text, decimal_long c.args.n)) in
    rw (← text) (given _ fits c.try_extend_from_slice.ensures.ok)
