-- The three ways of `write`. Assumes nothing.
use mathlib.Core.Path.{◌≡◌}
use mathlib.Core.Bool.{true, false}
use mathlib.Core.List.{List, ◌++◌}
use Prim.Native.Nat.{ℕ, ◌+◌, ◌*◌, ◌≤◌, ◌<◌}
use borrow.Author.Tests.{le-leb, lt-leb, leb-true}
use lib.Dec.{leb}
use lib.ListN.{length, drop}
use lib.Ieee.{Float}
use Rattle.floats.proofs.Bools.{and_both}
use Rattle.std.specs.Prelude.{Ok, Err}
use Rattle.wave.specs.declared.Refusal.TheVariants.{BadParam, NoRoom}
use Rattle.wave.specs.Form.{stem_of}
use Rattle.wave.specs.Write.{rate_in, all_numbers, is_fit, write_of, handed_back}

module _ (rate : ℕ) (xs : List Float) (d : List ℕ) where
  pub unfit_way : is_fit rate xs ≡ false → handed_back (Err BadParam) d ≡ write_of rate xs d
  unfolding write_of
  unfit_way h = rw h

  module _ (fit : is_fit rate xs ≡ true) where
    pub short_way : length d < 44 + 2 * length xs → handed_back (Err NoRoom) d ≡ write_of rate xs d
    unfolding write_of
    short_way h = rw (fit, lt-leb (44 + 2 * length xs) (length d) h)

    pub written_way : (d' : List ℕ) → 44 + 2 * length xs ≤ length d → d' ≡ stem_of rate xs ++ drop (44 + 2 * length xs) d → handed_back (Ok tt) d' ≡ write_of rate xs d
    unfolding write_of
    written_way d' h e = rw (fit, le-leb (44 + 2 * length xs) (length d) h, e)

-- what a fit rate and fit samples are
pub fit_small : (rate : ℕ) (xs : List Float) → is_fit rate xs ≡ true → (rate ≤ 384000) × (length xs ≤ 1048576)
fit_small rate xs h =
    let both = and_both (rate_in rate) (leb (length xs) 1048576) (and_both _ (all_numbers xs) h).0 in
    (leb-true rate 384000 (and_both (leb 1 rate) (leb rate 384000) both.0).1, leb-true (length xs) 1048576 both.1)
