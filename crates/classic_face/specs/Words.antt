-- The classic oscillator's state as nine words, in the order of its fields. Assumes nothing.
use Rattle.std.specs.Prelude.{cond, Option, None, Some, List, [], ◌∷◌, ℕ, eqb, leb, length, get_or, Float}
use Rattle.floats.specs.F32.{f32}
use Rattle.block.specs.Counting.{one_if}
use Rattle.block.specs.Calls.{Call, refusal}
use Rattle.classic.specs.declared.State.{State}
use Rattle.classic.specs.declared.OscillatorShape.{OscillatorShape}
use Rattle.classic.specs.Shapes.{numbered}
use Rattle.classic.specs.Start.{Start, started_at}
use Rattle.classic.specs.Block.{state_in, render_of}
use Rattle.words.specs.Face.{Face, face_of, no_bool, no_state, bits_of}

-- the state of the words, field by field
unfoldable pub state_of : List ℕ → State
state_of w = record {
  phase = f32 (get_or w 0 0);
  next_sample = f32 (get_or w 1 0);
  lp_state = f32 (get_or w 2 0);
  hp_state = f32 (get_or w 3 0);
  high = eqb (get_or w 4 0) 1;
  frequency = f32 (get_or w 5 0);
  pw = f32 (get_or w 6 0);
  impulse_train_lp_coeff = f32 (get_or w 7 0);
  impulse_train_gain = f32 (get_or w 8 0);
}

-- the words of a state, field by field
unfoldable pub words_of : State → List ℕ
words_of s =
    bits_of s.phase
    ∷ bits_of s.next_sample
    ∷ bits_of s.lp_state
    ∷ bits_of s.hp_state
    ∷ one_if s.high
    ∷ bits_of s.frequency
    ∷ bits_of s.pw
    ∷ bits_of s.impulse_train_lp_coeff
    ∷ bits_of s.impulse_train_gain
    ∷ []

-- what a start leaves: the state's words, and the answer's number
pub record StartFace : Type 0 where
  pub words : List ℕ
  pub number : ℕ

-- the words of the initial state with answer 0, and else those that were given, bit by bit
unfoldable pub start_of : List ℕ → Start → StartFace
start_of w s = record { words = cond (eqb s.number 0) (words_of s.state) w; number = s.number }

-- what `init` leaves: the oscillator's own start, put into words. The words are not tested, the one for `high` neither
abbrev pub init_face : List ℕ → Float → StartFace
init_face w sample_rate = start_of w (started_at (state_of w) sample_rate)

-- the call of the shape that was named; where none was, "above 7 is 4 in the place of a bad parameter": after the length's check and the state's
abbrev pub called_of : Option OscillatorShape → State → Float → Float → List Float → Call State
called_of (Some shape) s frequency pw xs = render_of s frequency pw shape xs
called_of None s frequency pw xs = refusal (cond (leb (length xs) 4096) (cond (state_in s) 4 3) 1) 0 s xs

-- what `render` leaves: the oscillator's own call, on the state of the given words, put into words. Where the one for `high` is neither 0 nor 1 they are
-- no state, and refused as a bad one is
abbrev pub render_face : List ℕ → Float → Float → ℕ → List Float → Face
render_face w frequency pw shape xs = cond (no_bool (get_or w 4 0)) (no_state w xs) (face_of words_of w (called_of (numbered shape) (state_of w) frequency pw xs))
