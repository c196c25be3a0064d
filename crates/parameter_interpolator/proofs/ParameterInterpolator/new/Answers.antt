-- `ParameterInterpolator::new` meets its contract: the divisor is the float nearest to the block length. Assumes nothing.
use Rattle.parameter_interpolator.proofs.ParameterInterpolator.new.Goals as goal

pub returns : goal.returns
returns c = rw c.nearest_u32_to_f32.ensures
