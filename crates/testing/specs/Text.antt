-- A line of text in the making: bytes are put after those that stand there, and what it has no room for is left out. Assumes nothing.
use Rattle.std.specs.Prelude.{◌≡◌, List, [], ◌∷◌, ◌++◌, ℕ, ◌/◌, ◌%◌, take}
use Rattle.io.specs.Digits.{hex_digit_ascii, last_digits, IsDigitCount}

-- a text put into a line that has room for so many bytes in all
abbrev pub put_of : ℕ → List ℕ → List ℕ → List ℕ
put_of room text line = take room (line ++ text)

abbrev pub byte_of : ℕ → ℕ → List ℕ → List ℕ
byte_of room byte line = put_of room (byte ∷ []) line

-- eight hexadecimal digits, and the byte after them
abbrev pub word_text : ℕ → ℕ → List ℕ
word_text word after =
    hex_digit_ascii (word / 0x1000_0000 % 16)
    ∷ hex_digit_ascii (word / 0x100_0000 % 16)
    ∷ hex_digit_ascii (word / 0x10_0000 % 16)
    ∷ hex_digit_ascii (word / 0x1_0000 % 16)
    ∷ hex_digit_ascii (word / 0x1000 % 16)
    ∷ hex_digit_ascii (word / 0x100 % 16)
    ∷ hex_digit_ascii (word / 0x10 % 16)
    ∷ hex_digit_ascii (word % 16)
    ∷ after
    ∷ []

-- what stands after a word: a space, or `last` where no word comes after it
abbrev pub after_of : List ℕ → ℕ → ℕ
after_of [] last = last
after_of (word ∷ rest) last = 32

unfoldable pub words_of : ℕ → List ℕ → ℕ → List ℕ → List ℕ
words_of room [] last line = line
words_of room (word ∷ rest) last line = words_of room rest last (put_of room (word_text word (after_of rest last)) line)

-- a number in decimal with the fewest digits, at least one, and the byte after them: what a line becomes
pub record Numbered (room number after : ℕ) (before now : List ℕ) : Type 0 where
  pub places : ℕ
  pub fewest : IsDigitCount 10 1 number places
  pub same : now ≡ byte_of room after (put_of room (last_digits 10 places number) before)
