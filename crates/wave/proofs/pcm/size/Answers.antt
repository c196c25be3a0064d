-- `wave::pcm::size` meets its contract. Assumes nothing.
use mathlib.Core.Path.{sym}
use Rattle.wave.proofs.Bits.{bits_nan, bits_over}
use Rattle.wave.proofs.pcm.size.Goals as goal

pub returns-then-bits-gt2139095040 : goal.returns-then-bits-gt2139095040
returns-then-bits-gt2139095040 c = sym (bits_nan c.args.bits c.requires c.if-bits-gt2139095040.true)

pub returns-then-bits-ge1065353216 : goal.returns-then-bits-ge1065353216
returns-then-bits-ge1065353216 c = sym (bits_over c.args.bits c.requires c.if-bits-ge1065353216.true c.if-bits-gt2139095040.false)
