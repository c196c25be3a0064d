-- Every public function's contract, as the kit reads it, determines its outcome. Assumes nothing.
use borrow.Fn.Kinds.{ended_of}
use mathlib.Core.Path.{◌≡◌, refl, sym, ◌∙◌, ap}
use mathlib.Core.List.{List}
use Prim.Native.Nat.{ℕ, ◌^◌, ◌≤◌, ◌<◌, ◌-◌}
use native.Mathlib.Nat.{pow-le-pow_right}
use native.Mathlib.Omega.{arith}
use contract.Lifetimes.{Lfts}
use denote.Ref.{Bor}
use Rattle.std.proofs.Common.{ext_get_or}
use mir.Syntax.{w64}
use mir.Val.{Fits}
use Rattle.floats.specs.Tightness.{Determines}
use Rattle.floats.proofs.Tightness.{coincide}
use Rattle.io.specs.Digits.{last_digits, IsDigitCount}
use Rattle.testing.specs.declared.text.Line.{Line}
use Rattle.testing.specs.Text.{byte_of, put_of, Numbered}
use Rattle.testing.specs.Words.{AreWordsAt}
use Rattle.testing.proofs.record.word_at
use Rattle.testing.proofs.record.words_at
use Rattle.testing.proofs.sums.checksum
use Rattle.testing.proofs.sums.sum
use Rattle.testing.proofs.turns.repeat
use Rattle.testing.proofs.text.front
use Rattle.testing.proofs.text.Line.as_bytes
use Rattle.testing.proofs.text.Line.new
use Rattle.testing.proofs.text.Line.put
use Rattle.testing.proofs.text.Line.put_byte
use Rattle.testing.proofs.text.Line.put_number
use Rattle.testing.proofs.text.Line.put_word
use Rattle.testing.proofs.text.Line.put_words

pub word_at_tight : Determines (ended_of _ word_at.Kinds.ps word_at.Kinds.r) word_at.Reads.Learnt
word_at_tight κs a r q v w h k = (coincide h k, refl)

words_once : (bytes : List ℕ) (at count : ℕ) (p q : List ℕ) → AreWordsAt bytes at count p → AreWordsAt bytes at count q → p ≡ q
words_once bytes at count p q h k = ext_get_or 0 p q (coincide h.0 k.0) (λ i e. coincide (h.1 i (omega (arith, e, h.0))) (k.1 i (omega (arith, e, h.0))))

module _ (N : ℕ) (fits : Fits w64 N) where
  pub words_at_tight : Determines (ended_of _ (words_at.Kinds.ps N fits) (words_at.Kinds.r N fits)) (words_at.Reads.Learnt N fits)
  words_at_tight κs a r q v w h k = (words_once _ _ _ _ _ h k, refl)

pub checksum_tight : Determines (ended_of _ checksum.Kinds.ps checksum.Kinds.r) checksum.Reads.Learnt
checksum_tight κs a r q v w h k = (coincide h k, refl)

pub sum_tight : Determines (ended_of _ sum.Kinds.ps sum.Kinds.r) sum.Reads.Learnt
sum_tight κs a r q v w h k = (coincide h k, refl)

-- what is returned is a reference: the bytes that it shows are determined
pub front_tight : (κs : Lfts 1) (out r q : Bor (List ℕ)) (end : ℕ) → front.Reads.Learnt κs (out, (end, tt)) r (out, (end, tt)) → front.Reads.Learnt κs (out, (end, tt)) q (out, (end, tt)) → r.now ≡ q.now
front_tight κs out r q end h k = coincide h k

-- a number has its fewest digits once
no_fewer : (n j k : ℕ) → IsDigitCount 10 1 n j → IsDigitCount 10 1 n k → j < k → ⊥
no_fewer n j k f g h =
    let more : 10 ^ j ≤ 10 ^ (k - 1) = pow-le-pow_right (omega arith) (omega arith) in
    omega (arith, f.0, f.1, g.2 (omega (arith, f.0)), more)

fewest_once : (n j k : ℕ) → IsDigitCount 10 1 n j → IsDigitCount 10 1 n k → j ≡ k
fewest_once n j k f g = omega (arith, no_fewer n j k f g, no_fewer n k j g f)

numbered_once : (room n after : ℕ) (l p q : List ℕ) → Numbered room n after l p → Numbered room n after l q → p ≡ q
numbered_once room n after l p q h k =
    h.same ∙ ap (λ (places : ℕ). byte_of room after (put_of room (last_digits 10 places n) l)) (fewest_once n h.places k.places h.fewest k.fewest) ∙ sym k.same

-- a line of any room
abbrev line : (N : ℕ) → List ℕ → Line N
line N items = record { bytes = record { items = items } }

module _ (N : ℕ) (fits : Fits w64 N) where
  pub new_tight : Determines (ended_of _ (new.Kinds.ps N fits) (new.Kinds.r N fits)) (new.Reads.Learnt N fits)
  new_tight κs a r q v w h k = (ap (line N) (coincide h k), refl)

  pub put_byte_tight : Determines (ended_of _ (put_byte.Kinds.ps N fits) (put_byte.Kinds.r N fits)) (put_byte.Reads.Learnt N fits)
  put_byte_tight κs a r q v w h k = (refl, ap (λ items. (line N items, (tt, tt))) (coincide h k))

  pub put_tight : Determines (ended_of _ (put.Kinds.ps N fits) (put.Kinds.r N fits)) (put.Reads.Learnt N fits)
  put_tight κs a r q v w h k = (refl, ap (λ items. (line N items, (tt, tt))) (coincide h k))

  pub put_word_tight : Determines (ended_of _ (put_word.Kinds.ps N fits) (put_word.Kinds.r N fits)) (put_word.Reads.Learnt N fits)
  put_word_tight κs a r q v w h k = (refl, ap (λ items. (line N items, (tt, (tt, tt)))) (coincide h k))

  pub put_words_tight : Determines (ended_of _ (put_words.Kinds.ps N fits) (put_words.Kinds.r N fits)) (put_words.Reads.Learnt N fits)
  put_words_tight κs a r q v w h k = (refl, ap (λ items. (line N items, (tt, (tt, tt)))) (coincide h k))

  pub put_number_tight : Determines (ended_of _ (put_number.Kinds.ps N fits) (put_number.Kinds.r N fits)) (put_number.Reads.Learnt N fits)
  put_number_tight κs a r q v w h k = (refl, ap (λ items. (line N items, (tt, (tt, tt)))) (numbered_once _ _ _ _ _ _ h k))

  -- likewise the bytes of a line
  pub as_bytes_tight : (κs : Lfts 2) (self : Bor (Line N)) (r q : Bor (List ℕ)) → as_bytes.Reads.Learnt N fits κs (self, tt) r (self, tt) → as_bytes.Reads.Learnt N fits κs (self, tt) q (self, tt) → r.now ≡ q.now
  as_bytes_tight κs self r q h k = coincide h k

-- what is returned is nothing, and nothing is lent
module _ (F : _) (l : _) where
  pub repeat_tight : (g : _) (d : _) (e : _) (f : _) → Determines (ended_of _ (repeat.Kinds.ps F l) (repeat.Kinds.r F l)) (repeat.Reads.Learnt F l g d e f)
  repeat_tight g d e f κs a r q v w h k = (refl, refl)
