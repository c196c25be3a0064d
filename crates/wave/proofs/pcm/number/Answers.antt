-- `wave::pcm::number` meets its contract: the sign is apart from the size. Assumes nothing.
use mathlib.Core.Path.{sym, subst}
use native.Mathlib.Omega.{arith}
use lib.Dec.{T}
use Rattle.wave.proofs.Held.{plus, minus, minus_fits}
use Rattle.wave.proofs.pcm.number.Goals as goal

pub returns-then-bits-lt2147483648 : goal.returns-then-bits-lt2147483648
returns-then-bits-lt2147483648 c = plus c.args.x (subst T (sym c.well_formed.0.1) tt) _ c.to_bits-bits.ensures _ c.size.ensures

pub overflow_sub-result : goal.overflow_sub-result
overflow_sub-result c = minus_fits _ _ c.size-2.ensures

pub returns : goal.returns
returns c = minus c.args.x (subst T (sym c.well_formed.0.1) tt) _ c.to_bits-bits.ensures _ c.if-bits-lt2147483648.false (omega arith) c.size-2.ensures
