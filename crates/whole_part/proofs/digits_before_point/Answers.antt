-- `whole_part::digits_before_point` meets its contract: the bits are an exponent's field and 23 digits, of which the shift drops those behind the point. Assumes nothing.
use native.Mathlib.Omega.{arith}
use Rattle.floats.specs.F32.{one32}
use Rattle.floats.proofs.Order.{numbers}
use Rattle.whole_part.proofs.Digits.{between, field_range, whole_is}
use Rattle.whole_part.proofs.digits_before_point.Goals as goal

pub float_to_bits-bits : goal.float_to_bits-bits
float_to_bits-bits c = rw (numbers one32 c.args.x c.requires.0).1 tt

pub overflow_sub-exponent : goal.overflow_sub-exponent
overflow_sub-exponent c = omega (arith, field_range (between _ c.well_formed.0.1 c.requires))

pub overflow_sub-result : goal.overflow_sub-result
overflow_sub-result c = omega (arith, field_range (between _ c.well_formed.0.1 c.requires))

pub returns : goal.returns
returns c = whole_is (between _ c.well_formed.0.1 c.requires)
