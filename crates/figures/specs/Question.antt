-- What a figure can ask, and the answer by the definitions that the contracts cite. Inputs and answers are bit patterns, in which -0.0 differs from 0.0.
-- Assumes nothing.
use Rattle.std.specs.Prelude.{Bool, false, List, [], ◌∷◌, ℕ, zero, suc, get_or, Float}
use Rattle.std.specs.Float.{binary32}
use Rattle.std.specs.Float.Ieee.{to_bits}
use Rattle.floats.specs.F32.{f32, zero32}
use Rattle.polyblep.specs.Polyblep.{this_blep_sample, next_blep_sample, next_integrated_blep_sample}
use Rattle.parameter_interpolator.specs.Interpolator.{new_interpolator, next_interpolator}
use Rattle.parameter_interpolator.specs.declared.ParameterInterpolator.{ParameterInterpolator}
use Rattle.whole_part.specs.WholePart as WholePart
use Rattle.edges.specs.Sync.{reset_time}
use Rattle.super_square.specs.declared.State.{State as SuperSquare}
use Rattle.super_square.specs.Sample.{sample_of}
use Rattle.super_square.specs.Block.{factor_of}
use Rattle.ranges.specs.Targets.{clamped_width}
use Rattle.variable_saw.specs.Figures as Saw
use Rattle.variable_shape.specs.Figures as Shape
use Rattle.classic.specs.declared.OscillatorShape.{OscillatorShape}
use Rattle.figures.specs.Classic as Classic
use Rattle.figures.specs.Late as Late

pub data Question : Type 0 where
  this_blep : Question
  next_blep : Question
  next_integrated_blep : Question
  interpolation : Question
  whole_part : Question
  super_square_factor : Question
  super_square_sample : Question
  pulse_width : Question
  saw_samples : Question
  shape_sample : Question
  classic_sample : OscillatorShape → Question
  classic_start : Question
  shape_crossings : Bool → Question
  square_crossings : Question

-- input k as it stands, and as a float
abbrev input : List ℕ → ℕ → ℕ
input inputs k = get_or inputs k 0

abbrev float : List ℕ → ℕ → Float
float inputs k = f32 (input inputs k)

-- an answer of one float
abbrev one : Float → List ℕ
one x = to_bits binary32 x ∷ []

-- the values of the next n steps
abbrev steps : ℕ → ParameterInterpolator → List ℕ
steps zero p = []
steps (suc n) p = let q = next_interpolator p in to_bits binary32 q.value ∷ steps n q

-- a super square whose master's phase is given, and all else 0
abbrev super_square_at : Float → SuperSquare
super_square_at phase = record { master_phase = phase; slave_phase = zero32; next_sample = zero32; high = false; master_frequency = zero32; slave_frequency = zero32 }

-- the cycles of one sample with the same step for both frequencies, the master's phase after it, and the time of its reset
abbrev reset_figure : Float → Float → List ℕ
reset_figure phase step =
    let t = sample_of (super_square_at phase) step step in
    t.counts.cycles ∷ to_bits binary32 t.state.master_phase ∷ to_bits binary32 (reset_time t.state.master_phase step) ∷ []

-- a low saw at `phase` with a steady width: the rises of one sample, the time of the rise, the phase after it; then the cycles of the next, and its phase
abbrev saw_figure : Float → Float → Float → List ℕ
saw_figure phase step width =
    let s = Saw.steady_saw phase step width in
    let t = Saw.steady_sample step width s in
    let u = Saw.steady_sample step width t.state in
    t.counts.rises
    ∷ to_bits binary32 (Saw.steady_rise_time step width s)
    ∷ to_bits binary32 t.state.phase
    ∷ u.counts.cycles
    ∷ to_bits binary32 u.state.phase
    ∷ []

-- a low shape without sync: rises, falls, cycles and the phase of one sample with a steady width; its waveshape is 0, since P10 names none and no count depends on it
abbrev shape_figure : Float → Float → Float → List ℕ
shape_figure phase step width =
    let t = Shape.steady_sample phase step width zero32 in
    t.counts.rises ∷ t.counts.falls ∷ t.counts.cycles ∷ to_bits binary32 t.state.slave_phase ∷ []

-- an interpolation's inputs are the value, the target and the number of steps; a sample's are the phase, the step and the width, if it has one;
-- a pulse width's are the frequency and the width; a classic sample's are its state's words and its two steps; those of crossings stand in LateRows; every other question has one input
abbrev pub answer_to : Question → List ℕ → List ℕ
answer_to this_blep inputs = one (this_blep_sample (float inputs 0))
answer_to next_blep inputs = one (next_blep_sample (float inputs 0))
answer_to next_integrated_blep inputs = one (next_integrated_blep_sample (float inputs 0))
answer_to interpolation inputs = steps (input inputs 2) (new_interpolator (float inputs 0) (float inputs 1) (input inputs 2))
answer_to whole_part inputs = WholePart.whole_part (float inputs 0) ∷ []
answer_to super_square_factor inputs = one (factor_of (float inputs 0))
answer_to super_square_sample inputs = reset_figure (float inputs 0) (float inputs 1)
answer_to pulse_width inputs = one (clamped_width (float inputs 0) (float inputs 1))
answer_to saw_samples inputs = saw_figure (float inputs 0) (float inputs 1) (float inputs 2)
answer_to shape_sample inputs = shape_figure (float inputs 0) (float inputs 1) (float inputs 2)
answer_to (classic_sample shape) inputs = Classic.sample_figure shape inputs
answer_to classic_start inputs = Classic.start_figure (float inputs 0)
answer_to (shape_crossings sync) inputs = Late.shape_figure sync inputs
answer_to square_crossings inputs = Late.square_figure inputs
