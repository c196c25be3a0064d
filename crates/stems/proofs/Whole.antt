-- What a caller reads of the buffer that lends as much room as the longest stem takes. Assumes nothing.
use mathlib.Core.Path.{◌≡◌, refl, ◌∙◌}
use mathlib.Core.Bool.{Bool, true, false}
use mathlib.Core.List.{List, ◌++◌}
use Prim.Native.Nat.{ℕ, ◌+◌, ◌*◌, ◌≤◌}
use native.Mathlib.Omega.{arith}
use borrow.Author.Tests.{le-leb}
use lib.ListN.{length, take, drop, length-append}
use lib.Seq.{take_at}
use lib.Ieee.{Float}
use Rattle.wave.specs.Form.{stem_of}
use Rattle.wave.specs.Write.{is_fit, write_of}
use Rattle.wave.proofs.Ways.{fit_small}
use Rattle.std.specs.Prelude.{Result}
use Rattle.stems.specs.declared.Refusal.{Refusal}
use Rattle.stems.specs.Compose.{given_rate, given_list, is_input, sound_in, Handed, written, compose_of, handed_back, stem_for, number_for}
use Rattle.stems.proofs.Ways.{unfit_written}

-- the number, and the bytes of the stem
pub record Answered (input : List ℕ) (h : Handed) : Type 0 where
  pub number_is : h.number ≡ number_for input
  pub inside : h.count ≤ length h.bytes
  pub stem_is : take h.count h.bytes ≡ stem_for input

-- samples that are fit, with room for every stem
fit_written : (rate : ℕ) (xs : List Float) (d : List ℕ) → is_fit rate xs ≡ true → 2097196 ≤ length d
    → written rate xs d ≡ record { number = 0; count = length (stem_of rate xs); bytes = stem_of rate xs ++ drop (44 + 2 * length xs) d }
unfolding written write_of
fit_written rate xs d h l = rw (h, le-leb (44 + 2 * length xs) (length d) (omega (arith, (fit_small rate xs h).1)))

-- by the two tests
module _ (input d : List ℕ) where
  refused : is_input input ≡ false → Answered input (compose_of input d)
  unfolding compose_of number_for stem_for
  refused h = record { number_is = rw h; inside = rw h (omega arith); stem_is = rw h }

  module _ (h : is_input input ≡ true) where
    unfit : is_fit (given_rate input) (sound_in (given_list input)) ≡ false → Answered input (compose_of input d)
    unfolding compose_of number_for stem_for
    unfit f =
        let same : compose_of input d ≡ record { number = 4; count = 0; bytes = d } = rw h (unfit_written (given_rate input) (sound_in (given_list input)) d f) in
        rw same (record { number_is = rw (h, f); inside = omega arith; stem_is = rw (h, f) })

    fit : 2097196 ≤ length d → is_fit (given_rate input) (sound_in (given_list input)) ≡ true → Answered input (compose_of input d)
    unfolding compose_of number_for stem_for
    fit l f =
        let stem = stem_of (given_rate input) (sound_in (given_list input)) in
        let same : compose_of input d ≡ record { number = 0; count = length stem; bytes = stem ++ drop (44 + 2 * length (sound_in (given_list input))) d } =
        rw h (fit_written (given_rate input) (sound_in (given_list input)) d f l)
        in
        rw same (record { number_is = rw (h, f); inside = simp length-append (omega arith); stem_is = take_at stem _ _ refl ∙ rw (h, f) })

  answered : 2097196 ≤ length d → Answered input (compose_of input d)
  answered l = go (is_input input) refl (is_fit (given_rate input) (sound_in (given_list input))) refl
    where
      go : (t : Bool) → is_input input ≡ t → (u : Bool) → is_fit (given_rate input) (sound_in (given_list input)) ≡ u → Answered input (compose_of input d)
      go false h u f = refused h
      go true h false f = unfit h f
      go true h true f = fit h l f

-- so a buffer of that size is never too short: the number is 8, 4 or 0, and what was written is the stem, whole, and nothing else
pub always_room : (r : Result ℕ Refusal) (d' input d : List ℕ) → handed_back r d' ≡ compose_of input d → 2097196 ≤ length d → Answered input (handed_back r d')
always_room r d' input d e l = rw e (answered input d l)
