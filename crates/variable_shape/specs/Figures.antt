-- The sample of 01's figure P10, whose steps are given: "shape without sync, low, 0.875, step 0.25, width 0.0625 steady".
-- 01 leaves the waveshape open; the table of figures takes 0. Assumes nothing.
use Rattle.std.specs.Prelude.{false, Float}
use Rattle.floats.specs.F32.{zero32}
use Rattle.block.specs.declared.sample.Sample.{Sample}
use Rattle.variable_shape.specs.declared.State.{State}
use Rattle.variable_shape.specs.Sample.{sample_of}

-- a low slave at `phase` that takes `step` without sync, its width the same as before
abbrev pub steady_sample : Float → Float → Float → Float → Sample State
steady_sample phase step width waveshape =
    sample_of false false (record {
      master_phase = zero32;
      slave_phase = phase;
      next_sample = zero32;
      previous_pw = width;
      high = false;
      master_frequency = step;
      slave_frequency = step;
      pw = width;
      waveshape = waveshape;
      phase_modulation = zero32;
    })
    (record { master_frequency = step; slave_frequency = step; pw = width; waveshape = waveshape; phase_modulation = zero32 })
