-- The loop over the records, of plain lists. Assumes nothing.
use mathlib.Core.Path.{◌≡◌, refl, sym, ap, ◌∙◌}
use mathlib.Core.Bool.{Bool, true, false}
use mathlib.Core.List.{List, ◌++◌, append_assoc, append-nil}
use Prim.Native.Nat.{ℕ, suc, ◌+◌, ◌-◌, ◌≤◌, ◌<◌}
use native.Mathlib.Numerals.{add-one}
use native.Mathlib.Omega.{arith}
use borrow.Author.Tests.{eqb-true, eqb-false}
use lib.Dec.{eqb}
use lib.ListN.{length, take, drop, length-append, length-take, length-drop}
use lib.Seq.{take_at}
use lib.Ieee.{Float}
use Rattle.jobs.specs.Words.{record_of}
use Rattle.bank.specs.declared.Bank.{Bank}
use Rattle.std.specs.Prelude.{Result}
use Rattle.block.specs.declared.refusal.Refusal.{Refusal}
use Rattle.block.specs.declared.Counts.{Counts}
use Rattle.block.specs.Answers.{number_of}
use Rattle.bank.specs.Bank.{init_bank, record_played}
use Rattle.bank.specs.Lent.{Handed, handed_back, play_of}
use Rattle.bank.proofs.Refused.{record_silent}
use Rattle.bank.proofs.Room.{record_long, record_short, always_room}
use Rattle.render.specs.Lists.{records_from}
use Rattle.stems.specs.Sound.{sound_of, left_of}
use Rattle.stems.specs.Private.{Laid}

-- a record has as many samples as it says where it is answered Done, and else none
pub left_long : (b : Bank) (p : List ℕ) → left_of (record_played b p).outcome.answer p ≡ length (record_played b p).samples
left_long b p = go (eqb (record_played b p).outcome.answer 0) refl
  where
    go : (t : Bool) → eqb (record_played b p).outcome.answer 0 ≡ t → left_of (record_played b p).outcome.answer p ≡ length (record_played b p).samples
    go true h = rw h (sym (record_long b p (eqb-true (record_played b p).outcome.answer 0 h)))
    go false h = rw (h, record_silent b p (eqb-false (record_played b p).outcome.answer 0 h))

-- a buffer whose part from `at` on was lent, once samples were written to the front of that part
module _ (d : List Float) where
  left_over : (at : ℕ) → length (take (length d - at) (drop at d)) ≡ length d - at
  left_over at = simp (length-take, length-drop) (omega arith)

  module _ (xs : List Float) (at : ℕ) (fits : at + length xs ≤ length d) where
    put_front : take (at + length xs) (take at d ++ ((xs ++ drop (length xs) (take (length d - at) (drop at d))) ++ drop (length d - at) (drop at d))) ≡ take at d ++ xs
    put_front = rw (append_assoc xs _ _, ← append_assoc (take at d) xs _) (take_at (take at d ++ xs) _ (at + length xs) (simp (length-append, length-take) (omega arith)))

    put_long : length (take at d ++ ((xs ++ drop (length xs) (take (length d - at) (drop at d))) ++ drop (length d - at) (drop at d))) ≡ length d
    put_long = simp (length-append, length-take, length-drop) (omega arith)

-- k of n records are played: their samples stand at the front, and with those of the rest after them they are the whole sound
pub record Laying (sound : List Float) (list : List ℕ) (n : ℕ) (d₀ d : List Float) (b : Bank) (at k : ℕ) : Type 0 where
  pub most : k ≤ n
  pub room : 1052672 ≤ length d₀
  pub long : length d ≡ length d₀
  pub short : at ≤ 1052672
  pub whole : (m : ℕ) → k + m ≡ n → sound ≡ take at d ++ sound_of b (records_from list k m)

pub laying_start : (list : List ℕ) (n : ℕ) (d : List Float) (b : Bank) → b ≡ init_bank → 1052672 ≤ length d → Laying (sound_of init_bank (records_from list 0 n)) list n d d b 0 0
laying_start list n d b h l = record {
  most = omega arith;
  room = l;
  long = refl;
  short = omega arith;
  whole = λ m p. let e : m ≡ n = omega arith in rw (e, h);
}

module _ (sound : List Float) (list : List ℕ) (n : ℕ) (d₀ d : List Float) (b : Bank) (at k : ℕ) (w : Laying sound list n d₀ d b at k) where
  over : 1048576 < at → 1048576 < length sound
  over l = omega (arith, w.most, w.room, w.long, w.short, simp (length-append, length-take) at (ap length (w.whole (n - k) (omega (arith, w.most)))))

  -- all records are played
  pub laying_end : n ≤ k → Laid sound at d
  unfolding sound_of records_from
  laying_end h = record {
    room = omega (arith, w.room, w.long, w.short);
    whole = λ l. w.whole 0 (omega (arith, w.most)) ∙ append-nil _;
    over = over;
  }

  -- or their samples are too many already
  pub laying_full : 1048576 < at → Laid sound at d
  laying_full h = record {
    room = omega (arith, w.room, w.long, w.short);
    whole = λ l. absurd (omega arith);
    over = over;
  }

  -- one record more, in what is left of the buffer
  pub laying_more : (p : List ℕ) (r : Result Counts Refusal) (b' : Bank) (x : List Float) (l : ℕ) → k < n → at ≤ 1048576 → p ≡ record_of list k
      → handed_back r b' x ≡ play_of b p (take (length d - at) (drop at d)) → l ≡ left_of (number_of r) p
      → Laying sound list n d₀ (take at d ++ (x ++ drop (length d - at) (drop at d))) b' (at + l) (k + 1)
  unfolding sound_of records_from
  laying_more p r b' x l h few o e q =
      let fits : at + length (record_played b p).samples ≤ length d = omega (arith, record_short b p, w.room, w.long) in
      let same = e ∙ always_room b p (take (length d - at) (drop at d)) (omega (arith, left_over d at, w.room, w.long)) in
      let all : l ≡ length (record_played b p).samples = q ∙ ap (λ (m : Handed). left_of m.outcome.answer p) same ∙ left_long b p in
      rw (ap (λ (m : Handed). m.buffer) same, ap (λ (m : Handed). m.bank) same, all)
      (record {
        most = omega arith;
        room = w.room;
        long = put_long d (record_played b p).samples at fits ∙ w.long;
        short = omega (arith, record_short b p);
        whole = λ m g. w.whole (suc m) (omega arith) ∙ rw (put_front d (record_played b p).samples at fits, add-one, o) (sym (append_assoc (take at d) _ _));
      })
