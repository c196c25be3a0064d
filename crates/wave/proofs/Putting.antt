-- The bytes of a stem as they are laid into a buffer. Assumes nothing.
use mathlib.Core.Path.{◌≡◌, refl, sym, ap, ◌∙◌}
use mathlib.Core.List.{List, [], ◌∷◌, ◌++◌, append_assoc, append-nil}
use Prim.Native.Nat.{ℕ, ◌+◌, ◌*◌, ◌≤◌, ◌<◌, ◌-◌}
use native.Mathlib.Nat.{add-sub_cancel_left}
use native.Mathlib.Numerals.{add-one}
use native.Mathlib.Omega.{arith}
use lib.ListN.{length, get_or, take, drop, length-append, length-take, length-drop}
use lib.Seq.{take_at, drop_at, take-length, drop-length, drop-drop, take-suc, take_all, length-take-le}
use lib.Ieee.{Float}
use lib.IntN.{ℤ, pos, negsuc}
use Rattle.std.specs.Int.{w16, w32, to_le_bytes, cast_signed, cast_unsigned}
use Rattle.wave.proofs.Held.{read_back}
use Rattle.wave.specs.Pcm.{pcm_of, held_as}
use Rattle.wave.specs.Form.{low_first, header_of, samples_of, stem_of}

-- ---- the bytes of a number, as the library writes them
pub dword_bytes : (v : ℕ) → to_le_bytes w32 v ≡ low_first 4 v
unfolding low_first
dword_bytes v = grind arith

word_bytes : (z : ℤ) → to_le_bytes w16 (cast_unsigned w16 z) ≡ low_first 2 (held_as z)
unfolding low_first
word_bytes (pos n) = grind arith
word_bytes (negsuc n) = grind arith

pub number_bytes : (x : Float) (z : ℤ) → z ≡ pcm_of x → to_le_bytes w16 (cast_unsigned w16 (cast_signed w16 (cast_unsigned w16 z))) ≡ low_first 2 (held_as (pcm_of x))
number_bytes x z e = rw (read_back x z e, e) (word_bytes (pcm_of x))

-- ---- the numbers of samples
pub samples_long : (xs : List Float) → length (samples_of xs) ≡ 2 * length xs
unfolding samples_of low_first
samples_long [] = refl
samples_long (x ∷ rest) = omega (arith, samples_long rest)

pub samples_append : (xs ys : List Float) → samples_of (xs ++ ys) ≡ samples_of xs ++ samples_of ys
unfolding samples_of
samples_append [] ys = refl
samples_append (x ∷ rest) ys = rw (samples_append rest ys) (sym (append_assoc (low_first 2 (held_as (pcm_of x))) (samples_of rest) (samples_of ys)))

-- ---- sample by sample
-- i samples are put
pub record Put (d : List ℕ) (xs : List Float) (d' : List ℕ) (i : ℕ) : Type 0 where
  pub most : i ≤ length xs
  pub room : 2 * length xs ≤ length d
  pub same : d' ≡ samples_of (take i xs) ++ drop (2 * i) d
  pub long : length d' ≡ length d

module _ (d : List ℕ) (xs : List Float) where
  pub put_start : 2 * length xs ≤ length d → Put d xs d 0
  unfolding samples_of
  put_start h = record { most = omega arith; room = h; same = refl; long = refl }

  module _ (d' : List ℕ) (i : ℕ) (p : Put d xs d' i) where
    before_long : length (samples_of (take i xs)) ≡ 2 * i
    before_long = samples_long (take i xs) ∙ ap (λ (k : ℕ). 2 * k) (length-take-le i xs p.most)

    one_more : (z : Float) → i < length xs → samples_of (take (i + 1) xs) ≡ samples_of (take i xs) ++ samples_of (get_or xs i z ∷ [])
    one_more z h = rw (add-one i, take-suc xs i z h) (samples_append (take i xs) (get_or xs i z ∷ []))

    -- a sample more, as two bytes are copied to their place
    pub put_more : (z : Float) (w : List ℕ) → i < length xs → w ≡ low_first 2 (held_as (pcm_of (get_or xs i z)))
        → Put d xs (take (2 * i) d' ++ (w ++ drop 2 (drop (2 * i) d'))) (i + 1)
    unfolding samples_of low_first
    put_more z w h e =
        let front = samples_of (take i xs) in
        let next : 2 * i + 2 ≡ 2 * (i + 1) = omega arith in
        let at : take (2 * i) d' ≡ front = rw p.same (take_at front (drop (2 * i) d) (2 * i) before_long) in
        let past : drop (2 * i) d' ≡ drop (2 * i) d = rw p.same (drop_at front (drop (2 * i) d) (2 * i) before_long) in
        let numbers : samples_of (take (i + 1) xs) ≡ front ++ w = rw (one_more z h, e) in
        let two : length w ≡ 2 = rw e in
        record {
          most = omega arith;
          room = p.room;
          same = rw (at, past, drop-drop 2 (2 * i) d, next, numbers) (sym (append_assoc front w (drop (2 * (i + 1)) d)));
          long = simp (length-append, length-take, length-drop) (omega (arith, two, p.long, p.room));
        }

    pub put_end : length xs ≤ i → d' ≡ samples_of xs ++ drop (2 * length xs) d
    put_end h = let e : i ≡ length xs = omega (arith, p.most) in p.same ∙ rw (e, take_all (length xs) xs (omega arith))

-- ---- a header, and samples after it
-- what stands in a buffer when h was copied to its front, and the part from there on then has s at its own front
pub joined : (h s d d' e : List ℕ) (n : ℕ) → length h ≡ n → n ≤ length d → d' ≡ take (length h) h ++ drop (length h) d
    → e ≡ s ++ drop (length s) (take (length d' - n) (drop n d')) → take n d' ++ (e ++ drop (length d' - n) (drop n d')) ≡ (h ++ s) ++ drop (n + length s) d
joined h s d d' e n l room p q =
    let at : d' ≡ h ++ drop n d = p ∙ rw (take-length h, l) in
    let front : take n d' ≡ h = rw at (take_at h (drop n d) n l) in
    let rest : drop n d' ≡ drop n d = rw at (drop_at h (drop n d) n l) in
    let long : length d' - n ≡ length (drop n d) = ap (λ (k : ℕ). k - n) (ap length at ∙ length-append h (drop n d) ∙ ap (λ (k : ℕ). k + length (drop n d)) l) ∙ add-sub_cancel_left n (length (drop n d)) in
    let part : take (length d' - n) (drop n d') ≡ drop n d = rw (long, rest) (take-length (drop n d)) in
    let none : drop (length d' - n) (drop n d') ≡ [] = rw (long, rest) (drop-length (drop n d)) in
    rw (front, none, q, part, append-nil, drop-drop (length s) n d) (sym (append_assoc h s (drop (n + length s) d)))

pub header_long : (rate size : ℕ) → length (header_of rate size) ≡ 44
unfolding header_of low_first
header_long rate size = refl

-- "44 header bytes, then samples", of two bytes each
pub stem_long : (rate : ℕ) (xs : List Float) → length (stem_of rate xs) ≡ 44 + 2 * length xs
stem_long rate xs = length-append (header_of rate (2 * length xs)) (samples_of xs) ∙ rw (header_long rate (2 * length xs), samples_long xs)

-- the header stands at the front, and the rest as it was
pub headed : (x h d : List ℕ) → x ≡ h → length h ≡ 44 → x ++ drop 44 d ≡ take (length h) h ++ drop (length h) d
headed x h d e l = rw (e, take-length h, l)

-- a stem in a buffer
pub whole_stem : (rate : ℕ) (xs : List Float) (d h d' e : List ℕ) → h ≡ header_of rate (2 * length xs) → 44 + 2 * length xs ≤ length d → d' ≡ take (length h) h ++ drop (length h) d
    → e ≡ samples_of xs ++ drop (2 * length xs) (take (length d' - 44) (drop 44 d'))
    → take 44 d' ++ (e ++ drop (length d' - 44) (drop 44 d')) ≡ stem_of rate xs ++ drop (44 + 2 * length xs) d
whole_stem rate xs d h d' e is room p q =
    rw (← is, ← samples_long xs)
    (joined h (samples_of xs) d d' e 44 (ap length is ∙ header_long rate (2 * length xs)) (omega arith) p (q ∙ rw (samples_long xs)))
