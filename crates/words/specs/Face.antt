-- What a call from another language gives, for any oscillator: the answer that it returns, the state's words, the seven words of the result, the first of
-- them the answer again, and the samples. Assumes nothing.
use Rattle.std.specs.Prelude.{◌≡◌, Bool, cond, ◌&&◌, ◌⊎◌, List, ◌∷◌, ℕ, ◌-◌, eqb, leb, ltb, ℤ, pos, negsuc, length, get_or, Float, Result}
use Rattle.std.specs.Float.{binary32}
use Rattle.std.specs.Float.Ieee.{to_bits}
use Rattle.block.specs.declared.refusal.Refusal.{Refusal}
use Rattle.block.specs.declared.Counts.{Counts}
use Rattle.block.specs.Answers.{number_of, index_of}
use Rattle.block.specs.Counting.{no_counts, told}
use Rattle.block.specs.Calls.{Call, counted}

pub record Face : Type 0 where
  pub answer : ℕ
  pub words : List ℕ
  pub result : List ℕ
  pub samples : List Float

-- answer, Drift's index (else 0), cycles, rises, falls, cuts, late
abbrev pub result_of : {S : Type 0} → Call S → List ℕ
result_of c = c.number ∷ c.index ∷ told c.counts

-- the same of what an oscillator's call gave
abbrev pub result_words : Result Counts Refusal → List ℕ
result_words answer = number_of answer ∷ index_of answer ∷ told (counted answer)

-- Whether a call that answered with this number over so many samples has its state stored. The given words stay, bit by bit, after a refusal and after
-- an empty block, 01: "nothing changed". A NaN among what is stored is 7fc00000.
abbrev pub stores_of : ℕ → ℕ → Bool
stores_of number samples = eqb number 0 && ltb 0 samples

-- what an oscillator's call leaves, put into words
unfoldable pub face_of : {S : Type 0} → (S → List ℕ) → List ℕ → Call S → Face
face_of words_of given c = record {
  answer = c.number;
  words = cond (stores_of c.number (length c.samples)) (words_of c.state) given;
  result = result_of c;
  samples = c.samples;
}

-- a refusal with this number and index: the words and the samples as they were, and nothing counted
abbrev pub refused_face : ℕ → ℕ → List ℕ → List Float → Face
refused_face number index given xs = record { answer = number; words = given; result = number ∷ index ∷ told no_counts; samples = xs }

-- in the words of a promise: answered, or refused with the words and the samples as they were and nothing counted
abbrev pub AnsweredOrKept : List ℕ → List Float → Face → Type 0
AnsweredOrKept given xs f = (f.answer ≡ 0) ⊎ (f ≡ refused_face f.answer (get_or f.result 1 0) given xs)

-- the number of a bad state over so many samples: a block that is too long is refused as such before the state is looked at
abbrev pub bad_state_of : ℕ → ℕ
bad_state_of samples = cond (leb samples 4096) 3 1

-- a word that stands for no bool: neither 0 nor 1
abbrev pub no_bool : ℕ → Bool
no_bool word = ltb 1 word

-- refused as a bad state is: so are words that are no state, since one of them stands for no bool
abbrev pub no_state : List ℕ → List Float → Face
no_state given xs = refused_face (bad_state_of (length xs)) 0 given xs

-- a float as its bit pattern, a NaN as 7fc00000
abbrev pub bits_of : Float → ℕ
bits_of x = to_bits binary32 x

-- a word as a whole number in two's complement: `negsuc n` is -1 - n, so that 0xffff_ffff is -1 and 0x8000_0000 is -2^31
abbrev pub signed_of : ℕ → ℤ
signed_of w = cond (ltb w 0x8000_0000) (pos w) (negsuc (0xffff_ffff - w))

-- and a whole number as a word
abbrev pub unsigned_of : ℤ → ℕ
unsigned_of (pos n) = n
unsigned_of (negsuc n) = 0xffff_ffff - n
