-- The start at a sample rate: oscillator.rs, lines 51 to 63, with 02's refusal before it. Assumes nothing.
use Rattle.std.specs.Prelude.{ℕ, Bool, cond, Float, Result}
use Rattle.floats.specs.F32.{f32}
use Rattle.block.specs.declared.refusal.Refusal.{Refusal}
use Rattle.block.specs.Answers.{number_of, index_of}
use Rattle.ranges.specs.Ranges.{within}
use Rattle.classic.specs.declared.State.{State}
use Rattle.classic.specs.State.{initial_state}

-- 02 (i): "the sample rate, 8,000 to 384,000"; a NaN lies outside
abbrev pub sample_rate_in : Float → Bool
sample_rate_in rate = within (f32 0x45fa_0000) (f32 0x48bb_8000) rate

-- the answer's number and index, and the state
pub record Start : Type 0 where
  pub number : ℕ
  pub index : ℕ
  pub state : State

-- "a sample rate outside gives 4 and the state as given"; else 0 and the initial state. The state is not tested.
abbrev pub started_at : State → Float → Start
started_at s rate =
    cond (sample_rate_in rate)
    (record { number = 0; index = 0; state = initial_state rate })
    (record { number = 4; index = 0; state = s })

-- what a call returned, and left in the state, in 01's numbers
abbrev pub as_start : Result (Unit {0}) Refusal → State → Start
as_start r s = record { number = number_of r; index = index_of r; state = s }
