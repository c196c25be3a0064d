-- The super square's state as six words, in the order of its fields. Assumes nothing.
use Rattle.std.specs.Prelude.{cond, List, [], ◌∷◌, ℕ, eqb, get_or, Float}
use Rattle.floats.specs.F32.{f32}
use Rattle.block.specs.Counting.{one_if}
use Rattle.super_square.specs.declared.State.{State}
use Rattle.super_square.specs.State.{init_state}
use Rattle.super_square.specs.Block.{render_of}
use Rattle.words.specs.Face.{Face, face_of, no_state, no_bool, bits_of}

-- the state of the words, field by field
unfoldable pub state_of : List ℕ → State
state_of w = record {
  master_phase = f32 (get_or w 0 0);
  slave_phase = f32 (get_or w 1 0);
  next_sample = f32 (get_or w 2 0);
  high = eqb (get_or w 3 0) 1;
  master_frequency = f32 (get_or w 4 0);
  slave_frequency = f32 (get_or w 5 0);
}

-- the words of a state, field by field
unfoldable pub words_of : State → List ℕ
words_of s =
    bits_of s.master_phase
    ∷ bits_of s.slave_phase
    ∷ bits_of s.next_sample
    ∷ one_if s.high
    ∷ bits_of s.master_frequency
    ∷ bits_of s.slave_frequency
    ∷ []

-- what `init` leaves: the words of the oscillator's own initial state
abbrev pub init_words : List ℕ
init_words = words_of init_state

-- what `render` leaves: the oscillator's own call, on the state of the given words, put into words. Where the one for `high` is neither 0 nor 1 they are
-- no state, and refused as a bad one is
abbrev pub render_face : List ℕ → Float → Float → List Float → Face
render_face w frequency shape xs = cond (no_bool (get_or w 3 0)) (no_state w xs) (face_of words_of w (render_of (state_of w) frequency shape xs))
