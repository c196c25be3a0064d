-- The source's utils/parameter_interpolator.rs, lines 14 to 21 and 41 to 44: a value that moves towards a target by one increment at a time. What `drop` stores, lines 52 to 56,
-- is the value as it then stands: a state keeps it. Assumes nothing.
use Rattle.std.specs.Prelude.{ℕ, Float}
use Rattle.floats.specs.F32.{whole32, ◌⊕◌, ◌⊖◌, ◌⊘◌}
use Rattle.parameter_interpolator.specs.declared.ParameterInterpolator.{ParameterInterpolator}

-- `new`, lines 14 to 21: the increment is (new - value) / n, for a block of n samples; n is rounded to a float first
abbrev pub new_interpolator : Float → Float → ℕ → ParameterInterpolator
new_interpolator value newValue n = record { value = value; increment = (newValue ⊖ value) ⊘ whole32 n }

-- `next`, lines 41 to 44: the increment is added once
abbrev pub next_interpolator : ParameterInterpolator → ParameterInterpolator
next_interpolator p = record { value = p.value ⊕ p.increment; increment = p.increment }
