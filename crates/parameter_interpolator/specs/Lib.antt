-- The source's ParameterInterpolator: `new` and `next`.
pub mod Interpolator
