-- What the crate's own functions ask of each other. No public contract cites it, and a reader need not believe it.
-- A tick is 2^-24, and 4456448 ticks are 17/64. Assumes nothing.
use Rattle.std.specs.Prelude.{◌≡◌, refl, Bool, true, cond, List, [], ◌∷◌, ◌*◌}
use Rattle.floats.proofs.Ticks.{tick, cycle}
use Rattle.floats.proofs.Ranges.{Under, Positive}
use Rattle.rooms.specs.declared.Room.{Room}
use Rattle.rooms.specs.declared.Room.TheVariants.{Unused, Frequency, PulseWidth, Waveshape, ModulationOrGain}
use Rattle.rooms.proofs.Guard.{Course}
use Rattle.ranges.specs.Ranges.{waveshape_in, modulation_or_gain_in}
use Rattle.ranges.specs.Targets.{clipped, clamped_width}
use Rattle.edges.specs.declared.Edge.{Edge}
use Rattle.edges.specs.CrossingLoop.{Rises, Falls}
use Rattle.variable_shape.specs.declared.State.{State}
use Rattle.variable_shape.specs.declared.Parameters.{Parameters}
use Rattle.variable_shape.specs.declared.steps.Steps.{Steps}
use Rattle.variable_shape.specs.declared.waveform.Waveform.{Waveform}
use Rattle.variable_shape.specs.Sample.{rise_of, fall_of}
use Rattle.variable_shape.specs.Block.{state_in}

-- a state in its ranges, whose phases are binary32 values
pub record Valid (s : State) : Type 0 where
  pub master : Under s.master_phase cycle
  pub slave : Under s.slave_phase cycle
  pub ranges : state_in s ≡ true

-- and steps in their rooms: the frequencies lie above 0 and are at most 17/64, the width is at least 0 and below 1
pub record Ready (s : State) (steps : Steps) : Type 0 where
  pub valid : Valid s
  pub master : Positive steps.master_frequency (4456448 * tick)
  pub slave : Positive steps.slave_frequency (4456448 * tick)
  pub width : Under steps.pw cycle
  pub waveshape : waveshape_in steps.waveshape ≡ true
  pub modulation : modulation_or_gain_in steps.phase_modulation ≡ true

-- the courses of its parameters: each goes to its target, phase modulation only where the phase is put out
abbrev pub courses : State → Parameters → Bool → List Course
courses s p phaseOutput =
    record { room = Frequency; value = s.master_frequency; target = clipped p.master_frequency }
    ∷ record { room = Frequency; value = s.slave_frequency; target = clipped p.frequency }
    ∷ record { room = PulseWidth; value = s.pw; target = clamped_width (clipped p.frequency) p.pw }
    ∷ record { room = Waveshape; value = s.waveshape; target = p.waveshape }
    ∷ cond phaseOutput (record { room = ModulationOrGain; value = s.phase_modulation; target = p.phase_modulation } ∷ []) []

-- the fifth room of the walk
abbrev pub modulation_room : Bool → Room
modulation_room phaseOutput = cond phaseOutput ModulationOrGain Unused

-- a rise and a fall are what the crossing loop asks
pub rises : (w : Waveform) (e : Edge) → Rises e (rise_of w e)
unfolding rise_of
rises w e = record { t = _; phase = refl; high = refl; reset = refl; counts = refl }

pub falls : (w : Waveform) (e : Edge) → Falls e (fall_of w e)
unfolding fall_of
falls w e = record { t = _; phase = refl; high = refl; reset = refl; counts = refl }
