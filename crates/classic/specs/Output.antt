-- What a sample of the classic oscillator puts out, and what its filters carry on: oscillator.rs, lines 128 to 135, 174 and 205 to 228. Assumes nothing.
use Rattle.std.specs.Prelude.{Float}
use Rattle.floats.specs.F32.{◌⊕◌, ◌⊖◌, ◌⊗◌, f32, half32, one32, two32, four32}
use Rattle.classic.specs.declared.State.{State}
use Rattle.classic.specs.declared.output.Output.{Output}
use Rattle.classic.specs.declared.OscillatorShape.{OscillatorShape}
use Rattle.classic.specs.declared.OscillatorShape.TheVariants.{ImpulseTrain, Saw, Triangle, Slope, Square, SquareBright, SquareDark, SquareTriangle}

-- 0.0625, line 207
abbrev pub sixteenth32 : Float
sixteenth32 = f32 0x3d80_0000

-- 128.0, line 208
abbrev pub gain128 : Float
gain128 = f32 0x4300_0000

-- lines 129, 174, 225 and 226: the filters stay
abbrev pub plain : State → Float → Output
plain s thisSample = record { sample = two32 ⊗ thisSample ⊖ one32; lp_state = s.lp_state; hp_state = s.hp_state }

-- lines 131 to 134
unfoldable pub impulse_train : State → Float → Output
impulse_train s thisSample =
    let lp = s.lp_state ⊕ s.impulse_train_lp_coeff ⊗ ((s.hp_state ⊖ thisSample) ⊖ s.lp_state) in
    record { sample = s.impulse_train_gain ⊗ lp; lp_state = lp; hp_state = thisSample }

-- lines 209, 215 and 221
abbrev pub integrated : Float → Float → Float → Float
integrated lp coefficient x = lp ⊕ coefficient ⊗ (x ⊖ lp)

-- lines 219 to 222
unfoldable pub square_bright : State → Float → Float → Output
square_bright s frequency thisSample =
    let x = two32 ⊗ thisSample ⊖ one32 in
    let lp = integrated s.lp_state (frequency ⊗ two32) x in
    record { sample = (x ⊖ lp) ⊗ half32; lp_state = lp; hp_state = s.hp_state }

-- lines 213 to 216
unfoldable pub square_dark : State → Float → Float → Output
square_dark s frequency thisSample =
    let lp = integrated s.lp_state (frequency ⊗ two32) (four32 ⊗ (thisSample ⊖ half32)) in
    record { sample = lp; lp_state = lp; hp_state = s.hp_state }

-- lines 207 to 210
unfoldable pub square_triangle : State → Float → Float → Output
square_triangle s frequency thisSample =
    let lp = integrated s.lp_state (frequency ⊗ sixteenth32) (gain128 ⊗ (thisSample ⊖ half32)) in
    record { sample = lp; lp_state = lp; hp_state = s.hp_state }

-- by shape
unfoldable pub output_of : OscillatorShape → State → Float → Float → Output
output_of ImpulseTrain s frequency thisSample = impulse_train s thisSample
output_of Saw s frequency thisSample = plain s thisSample
output_of Triangle s frequency thisSample = plain s thisSample
output_of Slope s frequency thisSample = plain s thisSample
output_of Square s frequency thisSample = plain s thisSample
output_of SquareBright s frequency thisSample = square_bright s frequency thisSample
output_of SquareDark s frequency thisSample = square_dark s frequency thisSample
output_of SquareTriangle s frequency thisSample = square_triangle s frequency thisSample
