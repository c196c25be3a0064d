-- The ways of the functions: which input has a sound, and what is written of it. Assumes nothing.
use mathlib.Core.Path.{◌≡◌, refl, sym, ◌∙◌}
use mathlib.Core.Bool.{Bool, true, false, and-false}
use mathlib.Core.List.{List}
use Prim.Native.Nat.{ℕ, ◌+◌, ◌*◌, ◌<◌}
use native.Mathlib.Omega.{arith}
use borrow.Author.Tests.{le-leb, lt-leb, leb-true, leb-false}
use lib.Dec.{leb, lit<}
use lib.ListN.{length, take, drop}
use lib.Seq.{length-take-le}
use lib.Ieee.{Float}
use Rattle.std.specs.Int.{w32, from_le_bytes}
use Rattle.std.proofs.lemmas.List.{get_or-take}
use Rattle.render.specs.Lists.{is_job_list}
use Rattle.std.specs.Prelude.{Result, Ok, Err}
use Rattle.wave.specs.declared.Refusal.{Refusal}
use Rattle.wave.specs.declared.Refusal.TheVariants.{BadParam, NoRoom}
use Rattle.wave.specs.Write.{is_fit, write_of, handed_back as wave_back}
use Rattle.wave.proofs.Putting.{stem_long}
use Rattle.stems.specs.declared.Refusal.TheVariants.{BadInput, Wave}
use Rattle.stems.specs.Compose.{given_rate, is_input, sound_in, Handed, written, compose_of, handed_back}
use Rattle.stems.specs.Private.{Laid}

-- ---- what `wave` answered, and what is made of that
module _ (rate : ℕ) (xs : List Float) (d d' : List ℕ) (r : Result (Unit {0}) Refusal) (e : wave_back r d' ≡ write_of rate xs d) where
  pub done_way : r ≡ Ok tt → handed_back (Ok (44 + 2 * length xs)) d' ≡ written rate xs d
  unfolding written
  done_way h = rw (← e, h, stem_long rate xs)

  pub refused_way : (w : Refusal) → r ≡ Err w → handed_back (Err (Wave w)) d' ≡ written rate xs d
  unfolding written
  refused_way BadParam h = rw (← e, h)
  refused_way NoRoom h = rw (← e, h)

-- ---- samples that were laid stand for the sound: where they are too many, it is refused whatever it is
many_unfit : (rate : ℕ) (xs : List Float) → 1048576 < length xs → is_fit rate xs ≡ false
many_unfit rate xs h = rw (lt-leb (length xs) 1048576 h, and-false)

pub unfit_written : (rate : ℕ) (xs : List Float) (d : List ℕ) → is_fit rate xs ≡ false → written rate xs d ≡ record { number = 4; count = 0; bytes = d }
unfolding written write_of
unfit_written rate xs d h = rw h

pub laid_written : (rate : ℕ) (sound : List Float) (r : ℕ) (xs : List Float) (d : List ℕ) → Laid sound r xs → written rate (take r xs) d ≡ written rate sound d
laid_written rate sound r xs d w = go (leb r 1048576) refl
  where
    go : (t : Bool) → leb r 1048576 ≡ t → written rate (take r xs) d ≡ written rate sound d
    go true h = rw (w.whole (leb-true r 1048576 h))
    go false h =
        let over = leb-false r 1048576 h in
        unfit_written rate (take r xs) d (many_unfit rate (take r xs) (omega (arith, over, length-take-le r xs w.room)))
        ∙ sym (unfit_written rate sound d (many_unfit rate sound (w.over over)))

-- ---- inputs
-- the first four bytes, as the library reads them
rate_read : (input : List ℕ) → from_le_bytes w32 (take 4 input) ≡ given_rate input
rate_read input = simp (get_or-take 4 input 0 0 (lit< tt), get_or-take 4 input 1 0 (lit< tt), get_or-take 4 input 2 0 (lit< tt), get_or-take 4 input 3 0 (lit< tt)) (omega arith)

module _ (input d : List ℕ) where
  malformed_way : is_input input ≡ false → handed_back (Err BadInput) d ≡ compose_of input d
  unfolding compose_of
  malformed_way h = rw h

  -- there are no four bytes
  pub short_way : length input < 4 → handed_back (Err BadInput) d ≡ compose_of input d
  short_way h = malformed_way (rw (lt-leb 4 (length input) h))

  -- there are, and what comes after them
  module _ (front list : List ℕ) (p : (front ≡ take 4 input) × (list ≡ drop 4 input) × (length list + 4 ≡ length input)) where
    given : is_input input ≡ is_job_list list
    given = rw (le-leb 4 (length input) (omega (arith, p.2)), p.1)

    pub unlisted_way : is_job_list list ≡ false → handed_back (Err BadInput) d ≡ compose_of input d
    unlisted_way h = malformed_way (given ∙ h)

    pub answered_way : (rate : ℕ) (h : Handed) → is_job_list list ≡ true → rate ≡ from_le_bytes w32 front → h ≡ written rate (sound_in list) d → h ≡ compose_of input d
    unfolding compose_of
    answered_way rate h t e w = w ∙ rw (given ∙ t, e, p.0, rate_read input, p.1)
