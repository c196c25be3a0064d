-- The NES triangle's state as five words, in the order of its fields. Assumes nothing.
use Rattle.std.specs.Prelude.{cond, List, [], ◌∷◌, ℕ, eqb, get_or, Float}
use Rattle.floats.specs.F32.{f32}
use Rattle.block.specs.Counting.{one_if}
use Rattle.nes_triangle.specs.declared.State.{State}
use Rattle.nes_triangle.specs.State.{init_state}
use Rattle.nes_triangle.specs.Block.{render_of}
use Rattle.words.specs.Face.{Face, face_of, no_bool, no_state, bits_of, signed_of, unsigned_of}

-- the state of the words, field by field. A word for `step` that is a negative number gives a state outside its range: `negative_step` in proofs/BadWords.antt
unfoldable pub state_of : List ℕ → State
state_of w = record {
  phase = f32 (get_or w 0 0);
  next_sample = f32 (get_or w 1 0);
  step = signed_of (get_or w 2 0);
  ascending = eqb (get_or w 3 0) 1;
  frequency = f32 (get_or w 4 0);
}

-- the words of a state, field by field
unfoldable pub words_of : State → List ℕ
words_of s =
    bits_of s.phase
    ∷ bits_of s.next_sample
    ∷ unsigned_of s.step
    ∷ one_if s.ascending
    ∷ bits_of s.frequency
    ∷ []

-- what `init` leaves: the words of the oscillator's own initial state
abbrev pub init_words : List ℕ
init_words = words_of init_state

-- what `render` leaves: the oscillator's own call, on the state of the given words, put into words. Where the one for `ascending` is neither 0 nor 1 they are
-- no state, and refused as a bad one is
abbrev pub render_face : List ℕ → Float → ℕ → List Float → Face
render_face w frequency numBits xs = cond (no_bool (get_or w 3 0)) (no_state w xs) (face_of words_of w (render_of (state_of w) frequency numBits xs))
