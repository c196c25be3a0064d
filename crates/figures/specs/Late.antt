-- What one sample of a synced oscillator counts, from the phases and steps of master and slave: a figure of 02 (iii). What no count depends on is 0. Assumes nothing.
use Rattle.std.specs.Prelude.{Bool, false, List, [], ◌∷◌, ℕ, eqb, get_or, Float}
use Rattle.floats.specs.F32.{f32, zero32}
use Rattle.block.specs.declared.Counts.{Counts}
use Rattle.super_square.specs.declared.State.{State as Square}
use Rattle.super_square.specs.Sample.{sample_of as square_sample}
use Rattle.variable_shape.specs.declared.State.{State as Shape}
use Rattle.variable_shape.specs.declared.steps.Steps.{Steps}
use Rattle.variable_shape.specs.Sample.{sample_of as shape_sample}

abbrev float : List ℕ → ℕ → Float
float inputs k = f32 (get_or inputs k 0)

-- late rises and late falls apart
abbrev counted : Counts → List ℕ
counted c = c.cycles ∷ c.rises ∷ c.falls ∷ c.cuts ∷ c.late_rises ∷ c.late_falls ∷ []

-- the master's phase and step, the slave's phase and step, the width before and this sample's, and `high`
abbrev shape_at : List ℕ → Shape
shape_at inputs = record {
  master_phase = float inputs 0;
  slave_phase = float inputs 2;
  next_sample = zero32;
  previous_pw = float inputs 4;
  high = eqb (get_or inputs 6 0) 1;
  master_frequency = float inputs 1;
  slave_frequency = float inputs 3;
  pw = float inputs 4;
  waveshape = zero32;
  phase_modulation = zero32;
}

abbrev steps_at : List ℕ → Steps
steps_at inputs = record { master_frequency = float inputs 1; slave_frequency = float inputs 3; pw = float inputs 5; waveshape = zero32; phase_modulation = zero32 }

abbrev pub shape_figure : Bool → List ℕ → List ℕ
shape_figure sync inputs = counted (shape_sample sync false (shape_at inputs) (steps_at inputs)).counts

-- the same of the super square, without the widths
abbrev square_at : List ℕ → Square
square_at inputs = record {
  master_phase = float inputs 0;
  slave_phase = float inputs 2;
  next_sample = zero32;
  high = eqb (get_or inputs 4 0) 1;
  master_frequency = float inputs 1;
  slave_frequency = float inputs 3;
}

abbrev pub square_figure : List ℕ → List ℕ
square_figure inputs = counted (square_sample (square_at inputs) (float inputs 1) (float inputs 3)).counts
