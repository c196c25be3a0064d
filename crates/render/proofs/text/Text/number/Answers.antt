-- `render::text::Text::number` meets its contract: the digits, and then the byte after them. Assumes nothing.
use Rattle.std.proofs.Common.{◌<◌, length, append_assoc, arith}
use Rattle.render.specs.Line.{number_then}
use Rattle.render.proofs.Digits.{ten_more}
use Rattle.render.proofs.text.Text.number.Goals as goal

pub push-requires : goal.push-requires
push-requires c =
    let room : length c.decimal.new.self.bytes.items < 90112 = omega (arith, ten_more _ _ c.decimal.ensures) in
    (omega arith, room)

pub returns-clause-text : goal.returns-clause-text
unfolding number_then
returns-clause-text c = rw (c.push.ensures.items, c.decimal.ensures, append_assoc)

pub returns-clause-short : goal.returns-clause-short
returns-clause-short c = omega (arith, c.push.ensures.len, ten_more _ _ c.decimal.ensures)
