-- A line that takes one text more, and the words and digits that it is given. Assumes nothing.
use Rattle.std.proofs.Common.{◌≡◌, Bool, true, refl, ◌∙◌, ap, ℕ, zero, suc, ◌+◌, ◌≤◌, ◌<◌, min, List, [], ◌∷◌, ◌++◌, length, take, drop, get_or, arith, append_assoc, add-one, drop-cons}
use native.Mathlib.Nat.{div-div-eq-div-mul}
use lib.ListN.{drop_of_length-le}
use Rattle.std.proofs.Math.Seq.{take-append-add}
use Rattle.std.proofs.lemmas.Grind.{common_steps}
use Rattle.io.specs.Digits.{hex_digit_ascii}
use Rattle.std.specs.Prelude.{slice_index, ◌/◌, ◌%◌}
use Rattle.std.specs.Int.{to_be_bytes, w32}
use Rattle.hex.specs.Hex.{lower_digits, encode_with, encode_lower}
use borrow.Enum.Match.{each_below}
use Rattle.testing.specs.Text.{put_of, word_text, after_of, words_of}
use Rattle.testing.specs.Turns.{Taken}

-- as much of a text as fits
pub put_fitting : (room left fitting : ℕ) (line text : List ℕ) → left + length line ≡ room → fitting ≡ min (length text) left → line ++ take fitting text ≡ put_of room text line
put_fitting room left fitting line text h k = let e = take-append-add line text left in grind (arith, common_steps)

take_twice : (room : ℕ) (one two : List ℕ) → take room (take room one ++ two) ≡ take room (one ++ two)
take_twice zero one two = refl
take_twice (suc room) [] two = refl
take_twice (suc room) (x ∷ one) two = ap (λ xs. x ∷ xs) (take_twice room one two)

-- a text after another is the two as one
pub put_twice : (room : ℕ) (line one two : List ℕ) → put_of room two (put_of room one line) ≡ put_of room (one ++ two) line
put_twice room line one two = take_twice room (line ++ one) two ∙ ap (take room) (append_assoc line one two)

-- the digit of the table at a place is the place's digit
digit_read : (d : ℕ) → d < 16 → slice_index lower_digits d ≡ hex_digit_ascii d
digit_read = each_below 16 (λ d. slice_index lower_digits d ≡ hex_digit_ascii d) (refl, (refl, (refl, (refl, (refl, (refl, (refl, (refl, (refl, (refl, (refl, (refl, (refl, (refl, (refl, (refl, tt))))))))))))))))

-- a byte of a word gives two of its digits
high_half : (n : ℕ) → slice_index lower_digits (n % 256 / 16) ≡ hex_digit_ascii (n / 16 % 16)
high_half n = digit_read _ (omega arith) ∙ ap hex_digit_ascii (omega arith)

low_half : (n : ℕ) → slice_index lower_digits (n % 256 % 16) ≡ hex_digit_ascii (n % 16)
low_half n = digit_read _ (omega arith) ∙ ap hex_digit_ascii (omega arith)

-- the eight digits of a word, by its four bytes
pub word_digits : (word after : ℕ) → encode_lower (to_be_bytes w32 word) ++ after ∷ [] ≡ word_text word after
unfolding encode_with
word_digits word after =
    rw (high_half (word / 16777216), low_half (word / 16777216), high_half (word / 65536), low_half (word / 65536), high_half (word / 256), low_half (word / 256), high_half word, low_half word)
    (simp div-div-eq-div-mul refl)

-- a word before the last one, and the last one
after_more : (rest : List ℕ) (end last : ℕ) → after_of (rest ++ end ∷ []) last ≡ 32
after_more [] end last = refl
after_more (word ∷ rest) end last = refl

module _ (room last end : ℕ) (before : List ℕ) (i : ℕ) (line : List ℕ) where
  pub words_more : i < length before → words_of room (drop i before ++ end ∷ []) last line ≡ words_of room (drop (i + 1) before ++ end ∷ []) last (put_of room (word_text (get_or before i 0) 32) line)
  unfolding words_of
  words_more h =
      rw (drop-cons before i 0 h, add-one) (ap (λ after. words_of room (drop (suc i) before ++ end ∷ []) last (put_of room (word_text (get_or before i 0) after) line)) (after_more (drop (suc i) before) end last))

  pub words_end : length before ≤ i → words_of room (drop i before ++ end ∷ []) last line ≡ put_of room (word_text end last) line
  unfolding words_of
  words_end h = rw (drop_of_length-le before {i = i} h)

-- no word
pub words_none : (room last : ℕ) (words line : List ℕ) → length words ≡ 0 → line ≡ words_of room words last line
unfolding words_of
words_none room last [] line h = refl
words_none room last (word ∷ rest) line h = absurd (omega (arith, h))

-- a turn more
taken_suc : {F : Type 0} (step : F → Bool → F → Type 0) (n : ℕ) (first left next : F) → Taken step n first left → step left true next → Taken step (suc n) first next
taken_suc step zero first left next h k = (next, rw h k, refl)
taken_suc step (suc n) first left next (mid, one, rest) k = (mid, one, taken_suc step n mid left next rest k)

pub taken_more : {F : Type 0} (step : F → Bool → F → Type 0) (n : ℕ) (first left next : F) → Taken step n first left → step left true next → Taken step (n + 1) first next
taken_more step n first left next h k = rw add-one (taken_suc step n first left next h k)
