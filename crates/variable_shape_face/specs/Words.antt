-- The variable shape's state as ten words, in the order of its fields. Assumes nothing.
use Rattle.std.specs.Prelude.{Bool, cond, List, [], ◌∷◌, ℕ, eqb, get_or, set, Float}
use Rattle.floats.specs.F32.{f32}
use Rattle.block.specs.Counting.{one_if}
use Rattle.variable_shape.specs.declared.State.{State}
use Rattle.variable_shape.specs.State.{init_state}
use Rattle.variable_shape.specs.Block.{render_of}
use Rattle.variable_shape.specs.MasterPhase.{Setting, master_phase_set}
use Rattle.words.specs.Face.{Face, face_of, no_bool, no_state, bits_of}

-- the state of the words, field by field
unfoldable pub state_of : List ℕ → State
state_of w = record {
  master_phase = f32 (get_or w 0 0);
  slave_phase = f32 (get_or w 1 0);
  next_sample = f32 (get_or w 2 0);
  previous_pw = f32 (get_or w 3 0);
  high = eqb (get_or w 4 0) 1;
  master_frequency = f32 (get_or w 5 0);
  slave_frequency = f32 (get_or w 6 0);
  pw = f32 (get_or w 7 0);
  waveshape = f32 (get_or w 8 0);
  phase_modulation = f32 (get_or w 9 0);
}

-- the words of a state, field by field
unfoldable pub words_of : State → List ℕ
words_of s =
    bits_of s.master_phase
    ∷ bits_of s.slave_phase
    ∷ bits_of s.next_sample
    ∷ bits_of s.previous_pw
    ∷ one_if s.high
    ∷ bits_of s.master_frequency
    ∷ bits_of s.slave_frequency
    ∷ bits_of s.pw
    ∷ bits_of s.waveshape
    ∷ bits_of s.phase_modulation
    ∷ []

-- what `init` leaves: the words of the oscillator's own initial state
abbrev pub init_words : List ℕ
init_words = words_of init_state

-- what `render` leaves: the oscillator's own call, on the state of the given words, put into words. Where the one for `high` is neither 0 nor 1 they are
-- no state, and refused as a bad one is
abbrev pub render_face : List ℕ → Float → Float → Float → Float → Float → Bool → Bool → List Float → Face
render_face w masterFrequency frequency pw waveshape phaseModulation sync phaseOutput xs = cond (no_bool (get_or w 4 0)) (no_state w xs) (face_of words_of w (render_of (state_of w) masterFrequency frequency pw waveshape phaseModulation sync phaseOutput xs))

-- what setting the master's phase leaves: the state's words, and the answer's number
pub record SetFace : Type 0 where
  pub words : List ℕ
  pub number : ℕ

-- the master's phase alone is put into its word, and only with answer 0
unfoldable pub set_of : List ℕ → Setting → SetFace
set_of w s = record { words = cond (eqb s.number 0) (set w 0 (bits_of s.state.master_phase)) w; number = s.number }

-- what `set_master_phase` leaves: the oscillator's own call, on the state of the given words, put into words
abbrev pub set_face : List ℕ → Float → SetFace
set_face w phase = set_of w (master_phase_set (state_of w) phase)
