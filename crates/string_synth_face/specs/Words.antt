-- The string synth's state as eight words, in the order of its fields. Assumes nothing.
use Rattle.std.specs.Prelude.{List, [], ◌∷◌, ℕ, get_or, Float}
use Rattle.floats.specs.F32.{f32}
use Rattle.string_synth.specs.declared.State.{State}
use Rattle.string_synth.specs.State.{init_state}
use Rattle.string_synth.specs.Block.{render_of}
use Rattle.words.specs.Face.{Face, face_of, bits_of, signed_of, unsigned_of}

-- the state of the words, field by field. A word for `segment` that is a negative number gives a state outside its range: `negative_segment` in proofs/BadWords.antt
unfoldable pub state_of : List ℕ → State
state_of w = record {
  phase = f32 (get_or w 0 0);
  next_sample = f32 (get_or w 1 0);
  segment = signed_of (get_or w 2 0);
  frequency = f32 (get_or w 3 0);
  saw_8_gain = f32 (get_or w 4 0);
  saw_4_gain = f32 (get_or w 5 0);
  saw_2_gain = f32 (get_or w 6 0);
  saw_1_gain = f32 (get_or w 7 0);
}

-- the words of a state, field by field
unfoldable pub words_of : State → List ℕ
words_of s =
    bits_of s.phase
    ∷ bits_of s.next_sample
    ∷ unsigned_of s.segment
    ∷ bits_of s.frequency
    ∷ bits_of s.saw_8_gain
    ∷ bits_of s.saw_4_gain
    ∷ bits_of s.saw_2_gain
    ∷ bits_of s.saw_1_gain
    ∷ []

-- what `init` leaves: the words of the oscillator's own initial state
abbrev pub init_words : List ℕ
init_words = words_of init_state

-- what `render` leaves: the oscillator's own call, on the state of the given words, put into words
abbrev pub render_face : List ℕ → Float → List Float → Float → List Float → Face
render_face w frequency registration gain xs = face_of words_of w (render_of (state_of w) frequency registration gain xs)
