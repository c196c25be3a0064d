-- What is promised over words, to a caller in another language. What such a call leaves is `render_face` in specs/Words.antt of each face, the contract of each exported function: the
-- oscillator's own call, put into words. Here, of that: which words are refused as a bad state, when words stay, and what is returned. Assumes nothing.
use Rattle.std.specs.Prelude.{◌≡◌, List, [], ℕ, ◌≤◌, ◌<◌, get_or, Float}
use Rattle.words.specs.Face.{Face, no_state, AnsweredOrKept}

-- a call over words: from the state's words and the samples, its parameters given
abbrev pub Rendering : Type 0
Rendering = List ℕ → List Float → Face

-- a word for a bool that is neither 0 nor 1: refused with 3, or with 1 where the block is too long, words and samples as they were
abbrev pub BadBool : ℕ → Rendering → Type 0
BadBool place render = (w : List ℕ) (xs : List Float) → 1 < get_or w place 0 → render w xs ≡ no_state w xs

-- a word that is a negative number in two's complement, where the state's is from 0 up: likewise
abbrev pub Negative : ℕ → Rendering → Type 0
Negative place render = (w : List ℕ) (xs : List Float) → 0x8000_0000 ≤ get_or w place 0 → render w xs ≡ no_state w xs

-- 01, "nothing changed": whatever the answer but 0, words and samples are as they were and the counts are 0; and an empty block leaves every word, also with answer 0
pub record Kept (render : Rendering) : Type 0 where
  pub refused : (w : List ℕ) (xs : List Float) → AnsweredOrKept w xs (render w xs)
  pub empty : (w : List ℕ) → (render w []).words ≡ w

-- the answer that is returned is the result's first word, whichever a caller looks at
abbrev pub Returned : Rendering → Type 0
Returned render = (w : List ℕ) (xs : List Float) → (render w xs).answer ≡ get_or (render w xs).result 0 0
