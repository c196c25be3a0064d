-- `whole_part::whole_part` meets its contract: from 131,072 up and below 1 by the order of floats, and between by the digits. Assumes nothing.
use mathlib.Core.Path.{refl}
use lib.Ieee.{is_nan, of_bits}
use Rattle.floats.specs.F32.{f32, one32}
use Rattle.floats.proofs.Order.{numbers, not_le_lt}
use Rattle.whole_part.proofs.Outside.{above, below}
use Rattle.whole_part.proofs.whole_part.Goals as goal

pub returns-then-x : goal.returns-then-x
returns-then-x c = above _ c.if-x.true

pub digits_before_point-requires : goal.digits_before_point-requires
unfolding is_nan of_bits
digits_before_point-requires c =
    let x = c.args.x in
    let number = (numbers one32 x c.if-x-2.true).1 in
    (c.if-x-2.true, not_le_lt (f32 0x4800_0000) x refl number c.if-x.false)

pub returns-else-x-2 : goal.returns-else-x-2
returns-else-x-2 c = below _ c.if-x-2.false
