-- What one record makes: of the six states, what its line says, and its samples. Assumes nothing.
use Rattle.std.specs.Prelude.{Bool, cond, Option, None, Some, List, [], ℕ, eqb, replicate, Float, Result, Err}
use Rattle.floats.specs.F32.{f32, zero32}
use Rattle.block.specs.declared.refusal.Refusal.{Refusal}
use Rattle.block.specs.declared.refusal.Refusal.TheVariants.{BadRecord}
use Rattle.block.specs.declared.Counts.{Counts}
use Rattle.block.specs.Answers.{number_of, index_of}
use Rattle.block.specs.Calls.{Call, counted}
use Rattle.jobs.specs.Record.{job_of}
use Rattle.jobs.specs.declared.Settings.{Settings}
use Rattle.jobs.specs.declared.Settings.TheVariants.{VariableShape, VariableSaw, SuperSquare, NesTriangle, StringSynth, Classic}
use Rattle.variable_shape.specs.State as ShapeStart
use Rattle.variable_shape.specs.Block as Shape
use Rattle.variable_saw.specs.State as SawStart
use Rattle.variable_saw.specs.Block as Saw
use Rattle.super_square.specs.State as SquareStart
use Rattle.super_square.specs.Block as Square
use Rattle.nes_triangle.specs.State as NesStart
use Rattle.nes_triangle.specs.Block as Nes
use Rattle.string_synth.specs.State as StringStart
use Rattle.string_synth.specs.Block as Strings
use Rattle.classic.specs.State as ClassicStart
use Rattle.classic.specs.Block as Classics
use Rattle.variable_shape.specs.declared.State.{State as ShapeState}
use Rattle.variable_saw.specs.declared.State.{State as SawState}
use Rattle.super_square.specs.declared.State.{State as SquareState}
use Rattle.nes_triangle.specs.declared.State.{State as NesState}
use Rattle.string_synth.specs.declared.State.{State as StringState}
use Rattle.classic.specs.declared.State.{State as ClassicState}
use Rattle.classic.specs.declared.OscillatorShape.{OscillatorShape}
use Rattle.bank.specs.declared.Bank.{Bank}

-- 02 (i): "the sample rate, 8,000 to 384,000 (48,000 in the renderer)"
abbrev pub sample_rate : Float
sample_rate = f32 0x473b_8000

-- "Each kind starts from `init`"
abbrev pub init_bank : Bank
init_bank = record {
  shape = ShapeStart.init_state;
  saw = SawStart.init_state;
  super_square = SquareStart.init_state;
  nes = NesStart.init_state;
  string = StringStart.init_state;
  classic = ClassicStart.initial_state sample_rate;
}

-- what a record's line says after its index: the answer's number, Drift's index or 0, and the counts
pub record Outcome : Type 0 where
  pub answer : ℕ
  pub drift : ℕ
  pub counts : Counts

-- what a record makes: the states after it, what its line says, and its samples
pub record Made : Type 0 where
  pub bank : Bank
  pub outcome : Outcome
  pub samples : List Float

-- what a line says of an answer
abbrev pub told_of : Result Counts Refusal → Outcome
told_of answer = record { answer = number_of answer; drift = index_of answer; counts = counted answer }

-- and of a call
abbrev pub outcome_of : {S : Type 0} → Call S → Outcome
outcome_of c = record { answer = c.number; drift = c.index; counts = c.counts }

-- the samples of a call: what an answered one left in its buffer; a refused one has none
abbrev pub heard : {S : Type 0} → Call S → List Float
heard c = cond (eqb c.number 0) c.samples []

-- a bank with one of its states replaced
abbrev pub with_shape : Bank → ShapeState → Bank
with_shape b s = record { shape = s; saw = b.saw; super_square = b.super_square; nes = b.nes; string = b.string; classic = b.classic }

abbrev pub with_saw : Bank → SawState → Bank
with_saw b s = record { shape = b.shape; saw = s; super_square = b.super_square; nes = b.nes; string = b.string; classic = b.classic }

abbrev pub with_super_square : Bank → SquareState → Bank
with_super_square b s = record { shape = b.shape; saw = b.saw; super_square = s; nes = b.nes; string = b.string; classic = b.classic }

abbrev pub with_nes : Bank → NesState → Bank
with_nes b s = record { shape = b.shape; saw = b.saw; super_square = b.super_square; nes = s; string = b.string; classic = b.classic }

abbrev pub with_string : Bank → StringState → Bank
with_string b s = record { shape = b.shape; saw = b.saw; super_square = b.super_square; nes = b.nes; string = s; classic = b.classic }

abbrev pub with_classic : Bank → ClassicState → Bank
with_classic b s = record { shape = b.shape; saw = b.saw; super_square = b.super_square; nes = b.nes; string = b.string; classic = s }

-- what a call makes of the bank: the state that it left goes where `put` has the place of its kind, and the others are as they were
abbrev pub played : {S : Type 0} → (S → Bank) → Call S → Made
played put c = record { bank = put c.state; outcome = outcome_of c; samples = heard c }

-- a call of each kind, on a buffer
unfoldable pub shape_played : Bank → Float → Float → Float → Float → Float → Bool → Bool → List Float → Made
shape_played b masterFrequency frequency pw waveshape phaseModulation sync phaseOutput xs =
    played (with_shape b) (Shape.render_of b.shape masterFrequency frequency pw waveshape phaseModulation sync phaseOutput xs)

unfoldable pub saw_played : Bank → Float → Float → Float → List Float → Made
saw_played b frequency pw waveshape xs = played (with_saw b) (Saw.render_of b.saw frequency pw waveshape xs)

unfoldable pub super_square_played : Bank → Float → Float → List Float → Made
super_square_played b frequency shape xs = played (with_super_square b) (Square.render_of b.super_square frequency shape xs)

unfoldable pub nes_played : Bank → Float → ℕ → List Float → Made
nes_played b frequency bits xs = played (with_nes b) (Nes.render_of b.nes frequency bits xs)

unfoldable pub string_played : Bank → Float → List Float → Float → List Float → Made
string_played b frequency registration gain xs = played (with_string b) (Strings.render_of b.string frequency registration gain xs)

unfoldable pub classic_played : Bank → Float → Float → OscillatorShape → List Float → Made
classic_played b frequency pw shape xs = played (with_classic b) (Classics.render_of b.classic frequency pw shape xs)

-- the call that the settings ask for, with the registration that stands beside them
abbrev pub settings_played : Bank → Settings → List Float → List Float → Made
settings_played b (VariableShape p) registration xs = shape_played b p.master_frequency p.frequency p.pw p.waveshape p.phase_modulation p.sync p.phase_output xs
settings_played b (VariableSaw p) registration xs = saw_played b p.frequency p.pw p.waveshape xs
settings_played b (SuperSquare p) registration xs = super_square_played b p.frequency p.shape xs
settings_played b (NesTriangle p) registration xs = nes_played b p.frequency p.num_bits xs
settings_played b (StringSynth frequency gain) registration xs = string_played b frequency registration gain xs
settings_played b (Classic p) registration xs = classic_played b p.frequency p.pw p.shape xs

-- "the string's buffer is zeroed for each record"; the other kinds overwrite what they find
abbrev pub silence : ℕ → List Float
silence n = replicate n zero32

-- "A refused record changes nothing"
abbrev pub refused_record : Bank → Made
refused_record b = record { bank = b; outcome = told_of (Err BadRecord); samples = [] }

-- what a record asks for: 7 where it is malformed, else the call
abbrev pub asked_played : Bank → Option Settings → List Float → List Float → Made
asked_played b None registration xs = refused_record b
asked_played b (Some settings) registration xs = settings_played b settings registration xs

-- "then 7 for each record, then makes the call", on as many zeros as the record says
unfoldable pub record_played : Bank → List ℕ → Made
record_played b p = let job = job_of p in asked_played b job.asked job.registration (silence job.block_length)
