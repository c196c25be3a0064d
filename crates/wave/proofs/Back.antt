-- What `write` wrote is read back: that rate, and those numbers. Assumes nothing.
use mathlib.Core.Path.{◌≡◌, refl, sym, ap, ◌∙◌}
use mathlib.Core.Bool.{Bool, true, false, not, cond}
use mathlib.Core.List.{List, [], ◌∷◌, ◌++◌, map}
use Prim.Native.Nat.{ℕ, ◌+◌, ◌*◌, ◌-◌, ◌≤◌, ◌<◌}
use native.Mathlib.Omega.{arith}
use borrow.Author.Tests.{lt-ltb, le-ltb, leb-true}
use lib.Dec.{leb}
use lib.IntN.{ℤ, pos, negsuc, nat_abs}
use lib.ListN.{length, take, drop, take-append-drop}
use lib.Seq.{take_at, drop_at}
use lib.Ieee.{Float}
use Rattle.floats.proofs.Bools.{and_both}
use Rattle.wave.specs.Pcm.{pcm_of, held_as}
use Rattle.wave.specs.Form.{low_first, header_of, samples_of, stem_of}
use Rattle.wave.specs.Write.{rate_in, all_numbers, is_fit, Handed, write_of}
use Rattle.wave.specs.Read.{WaveAt, of_low_first, rate_of, signed, numbers_of, numbers_in}
use Rattle.wave.proofs.Values.{pcm_most}
use Rattle.wave.proofs.Putting.{header_long, stem_long}
use Rattle.wave.proofs.Ways.{fit_small}

-- ---- bytes and numbers
two_bytes : (v : ℕ) → v < 65536 → of_low_first (low_first 2 v) ≡ v
unfolding of_low_first low_first
two_bytes v h = omega arith

four_bytes : (v : ℕ) → v < 4294967296 → of_low_first (low_first 4 v) ≡ v
unfolding of_low_first low_first
four_bytes v h = omega arith

held_small : (z : ℤ) → nat_abs z ≤ 32767 → held_as z < 65536
held_small (pos n) h = omega arith
held_small (negsuc n) h = omega arith

signed_held : (z : ℤ) → nat_abs z ≤ 32767 → signed (held_as z) ≡ z
signed_held (pos n) h = rw (lt-ltb n 32768 (omega arith))
signed_held (negsuc n) h = rw (le-ltb (65535 - n) 32768 (omega arith)) (ap negsuc (twice n (omega arith)))
  where
    twice : (n : ℕ) → n ≤ 65535 → 65535 - (65535 - n) ≡ n
    twice n h = omega arith

-- the numbers of samples are theirs
pub numbers_back : (xs : List Float) → numbers_of (samples_of xs) ≡ map pcm_of xs
unfolding numbers_of samples_of low_first
numbers_back [] = refl
numbers_back (x ∷ rest) = rw (two_bytes (held_as (pcm_of x)) (held_small (pcm_of x) (pcm_most x)), signed_held (pcm_of x) (pcm_most x), numbers_back rest)

-- ---- a header's rate
rate_front : (rate size : ℕ) (rest : List ℕ) → rate < 4294967296 → rate_of (header_of rate size ++ rest) ≡ rate
unfolding header_of low_first
rate_front rate size rest h = four_bytes rate h

small_rate : (rate : ℕ) → rate_in rate ≡ true → rate < 4294967296
small_rate rate h = omega (arith, leb-true rate 384000 (and_both (leb 1 rate) (leb rate 384000) h).1)

-- a file of the form has the rate that stands in it, so that it has no other
pub rate_read : (rate : ℕ) (file : List ℕ) → WaveAt rate file → rate_of file ≡ rate
rate_read rate file w =
    ap rate_of (sym (take-append-drop 44 file) ∙ ap (λ (h : List ℕ). h ++ drop 44 file) w.header) ∙ rate_front rate (2 * w.count) (drop 44 file) (small_rate rate w.rated)

-- ---- a stem
module _ (rate : ℕ) (xs : List Float) where
  pub stem_wave : is_fit rate xs ≡ true → WaveAt rate (stem_of rate xs)
  stem_wave h = record {
    rated = (and_both (rate_in rate) (leb (length xs) 1048576) (and_both _ (all_numbers xs) h).0).0;
    count = length xs;
    few = (fit_small rate xs h).1;
    long = stem_long rate xs;
    header = take_at (header_of rate (2 * length xs)) (samples_of xs) 44 (header_long rate (2 * length xs));
  }

  pub stem_numbers : numbers_in (stem_of rate xs) ≡ map pcm_of xs
  stem_numbers = ap numbers_of (drop_at (header_of rate (2 * length xs)) (samples_of xs) 44 (header_long rate (2 * length xs))) ∙ numbers_back xs

  -- as `write` leaves it
  module _ (d : List ℕ) where
    front : List ℕ
    front = take (44 + 2 * length xs) (write_of rate xs d).bytes

    written : (write_of rate xs d).number ≡ 0 → (is_fit rate xs ≡ true) × (front ≡ stem_of rate xs)
    unfolding write_of front
    written = go (is_fit rate xs) (leb (44 + 2 * length xs) (length d))
      where
        given : Bool → Bool → Handed
        given fit room = cond (not fit) (record { number = 4; bytes = d }) (cond (not room) (record { number = 9; bytes = d }) (record { number = 0; bytes = stem_of rate xs ++ drop (44 + 2 * length xs) d }))

        go : (fit room : Bool) → (given fit room).number ≡ 0 → (fit ≡ true) × (take (44 + 2 * length xs) (given fit room).bytes ≡ stem_of rate xs)
        go false room h = absurd (omega (arith, h))
        go true false h = absurd (omega (arith, h))
        go true true h = (refl, take_at (stem_of rate xs) (drop (44 + 2 * length xs) d) (44 + 2 * length xs) (stem_long rate xs))

    pub write_read_back : (write_of rate xs d).number ≡ 0 → WaveAt rate (take (44 + 2 * length xs) (write_of rate xs d).bytes) × (numbers_in (take (44 + 2 * length xs) (write_of rate xs d).bytes) ≡ map pcm_of xs)
    unfolding front
    write_read_back h = let w = written h in rw w.1 (stem_wave w.0, stem_numbers)
