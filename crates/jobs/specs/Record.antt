-- What a job record asks for: 01, "Job records and the renderer", and 02 (i) for kind 6. Assumes nothing.
use Rattle.std.specs.Prelude.{Bool, ◌&&◌, cond, Option, None, Some, List, ℕ, ◌%◌, eqb, leb, length, get_or, Float}
use Rattle.std.specs.Int.Count.{ones, count_trailing_zeros}
use Rattle.classic.specs.Shapes.{numbered}
use Rattle.classic.specs.declared.OscillatorShape.{OscillatorShape}
use Rattle.jobs.specs.Words.{short_at, word_at, float_at, floats_at}
use Rattle.jobs.specs.Fields.{unused_zero}
use Rattle.jobs.specs.declared.Settings.{Settings}
use Rattle.jobs.specs.declared.Settings.TheVariants.{VariableShape, VariableSaw, SuperSquare, NesTriangle, StringSynth, Classic}
use Rattle.jobs.specs.declared.Job.{Job}

-- settings to play, or a malformed record
abbrev pub play_if : Bool → Settings → Option Settings
play_if good s = cond good (Some s) None

-- "flags: 1 sync, 2 phase output; above 3 BadRecord"
unfoldable pub shape_of : List ℕ → Option Settings
shape_of p =
    let flags = get_or p 1 0 in
    play_if (leb flags 3) (VariableShape (record {
      frequency = float_at p 8;
      master_frequency = float_at p 12;
      pw = float_at p 16;
      waveshape = float_at p 20;
      phase_modulation = float_at p 24;
      sync = eqb (flags % 2) 1;
      phase_output = leb 2 flags;
    }))

abbrev pub saw_of : List ℕ → Option Settings
saw_of p = Some (VariableSaw (record { frequency = float_at p 8; pw = float_at p 16; waveshape = float_at p 20 }))

-- the shape stands where others have their pulse width
abbrev pub super_square_of : List ℕ → Option Settings
super_square_of p = Some (SuperSquare (record { frequency = float_at p 8; shape = float_at p 16 }))

-- "NES step count: exactly one bit set, 2 to 65,536; bits are its trailing zeros"
abbrev pub step_count_in : ℕ → Bool
step_count_in steps = (eqb (ones steps) 1 && leb 2 steps) && leb steps 65536

-- frequency, bits
unfoldable pub nes_of : List ℕ → Option Settings
nes_of p = let steps = word_at p 4 in play_if (step_count_in steps) (NesTriangle (record { frequency = float_at p 8; num_bits = count_trailing_zeros 32 steps }))

-- frequency, gain
abbrev pub string_of : List ℕ → Option Settings
string_of p = Some (StringSynth (float_at p 8) (float_at p 12))

-- frequency, pulse width, and the shape that the flags name
abbrev pub classic_by : Float → Float → Option OscillatorShape → Option Settings
classic_by frequency pw None = None
classic_by frequency pw (Some shape) = Some (Classic (record { frequency = frequency; pw = pw; shape = shape }))

-- 02 (i): "Flags hold the shape 0 to 7 in the order of `OscillatorShape`, above 7 is BadRecord"
unfoldable pub classic_of : List ℕ → Option Settings
classic_of p = classic_by (float_at p 8) (float_at p 16) (numbered (get_or p 1 0))

-- "kind: 1 shape, 2 saw, 3 super square, 4 NES, 5 string"; 02 (i): "record kind 6", and BadRecord are "kinds 7 to 255" and, as before, 0
unfoldable pub by_kind_of : ℕ → List ℕ → Option Settings
by_kind_of kind p =
    cond (eqb kind 1) (shape_of p)
    (cond (eqb kind 2) (saw_of p)
    (cond (eqb kind 3) (super_square_of p)
    (cond (eqb kind 4) (nes_of p)
    (cond (eqb kind 5) (string_of p)
    (cond (eqb kind 6) (classic_of p)
    None)))))

-- a part that is no whole record, as the empty one, is malformed too
unfoldable pub asked_of : List ℕ → Option Settings
asked_of p = let kind = get_or p 0 0 in cond (eqb (length p) 64 && unused_zero kind p) (by_kind_of kind p) None

-- bytes 2 and 3 are the block length, 28 to 55 the registration, which is 0 in every good record of a kind that leaves it unused
unfoldable pub job_of : List ℕ → Job
job_of p = record { asked = asked_of p; block_length = short_at p 2; registration = floats_at 7 p 28 }
