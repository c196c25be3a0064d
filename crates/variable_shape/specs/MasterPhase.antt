-- The master's phase set from outside: variable_shape_oscillator.rs, lines 51 to 53, with 01's refusal before it. Assumes nothing.
use Rattle.std.specs.Prelude.{cond, ℕ, Result, Ok, Err, Float}
use Rattle.block.specs.declared.refusal.Refusal.{Refusal}
use Rattle.block.specs.Answers.{number_of, index_of}
use Rattle.ranges.specs.Ranges.{phase_in}
use Rattle.variable_shape.specs.declared.State.{State}

-- the answer's number and index, and the state
pub record Setting : Type 0 where
  pub number : ℕ
  pub index : ℕ
  pub state : State

abbrev pub with_master_phase : State → Float → State
with_master_phase s phase = record {
  master_phase = phase;
  slave_phase = s.slave_phase;
  next_sample = s.next_sample;
  previous_pw = s.previous_pw;
  high = s.high;
  master_frequency = s.master_frequency;
  slave_frequency = s.slave_frequency;
  pw = s.pw;
  waveshape = s.waveshape;
  phase_modulation = s.phase_modulation;
}

-- 01: 4, and the state as given, unless the phase is at least 0 and below 1; else 0, and only the master's phase changes,
-- stored bit by bit, a -0.0 as such. The state is not tested.
abbrev pub master_phase_set : State → Float → Setting
master_phase_set s phase =
    cond (phase_in phase)
    (record { number = 0; index = 0; state = with_master_phase s phase })
    (record { number = 4; index = 0; state = s })

-- by value a refusal leaves the state that was given
abbrev pub left : State → Result State Refusal → State
left s (Ok t) = t
left s (Err refusal) = s

-- what a call returned, in 01's numbers, and the state that it left
abbrev pub as_setting : {T : Type 0} → Result T Refusal → State → Setting
as_setting r s = record { number = number_of r; index = index_of r; state = s }
