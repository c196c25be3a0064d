-- The variable saw's state as seven words, in the order of its fields. Assumes nothing.
use Rattle.std.specs.Prelude.{cond, List, [], ◌∷◌, ℕ, eqb, get_or, Float}
use Rattle.floats.specs.F32.{f32}
use Rattle.block.specs.Counting.{one_if}
use Rattle.variable_saw.specs.declared.State.{State}
use Rattle.variable_saw.specs.State.{init_state}
use Rattle.variable_saw.specs.Block.{render_of}
use Rattle.words.specs.Face.{Face, face_of, no_bool, no_state, bits_of}

-- the state of the words, field by field
unfoldable pub state_of : List ℕ → State
state_of w = record {
  phase = f32 (get_or w 0 0);
  next_sample = f32 (get_or w 1 0);
  previous_pw = f32 (get_or w 2 0);
  high = eqb (get_or w 3 0) 1;
  frequency = f32 (get_or w 4 0);
  pw = f32 (get_or w 5 0);
  waveshape = f32 (get_or w 6 0);
}

-- the words of a state, field by field
unfoldable pub words_of : State → List ℕ
words_of s =
    bits_of s.phase
    ∷ bits_of s.next_sample
    ∷ bits_of s.previous_pw
    ∷ one_if s.high
    ∷ bits_of s.frequency
    ∷ bits_of s.pw
    ∷ bits_of s.waveshape
    ∷ []

-- what `init` leaves: the words of the oscillator's own initial state
abbrev pub init_words : List ℕ
init_words = words_of init_state

-- what `render` leaves: the oscillator's own call, on the state of the given words, put into words. Where the one for `high` is neither 0 nor 1 they are
-- no state, and refused as a bad one is
abbrev pub render_face : List ℕ → Float → Float → Float → List Float → Face
render_face w frequency pw waveshape xs = cond (no_bool (get_or w 3 0)) (no_state w xs) (face_of words_of w (render_of (state_of w) frequency pw waveshape xs))
