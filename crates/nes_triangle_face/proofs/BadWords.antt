-- A word for `step` that is a negative number in two's complement is a state outside its range, and refused as such: with 3, or with 1 where the block is too long. Words and samples
-- stay. Assumes nothing.
use mathlib.Core.Path.{◌≡◌, refl}
use mathlib.Core.Bool.{Bool, true, false, ◌&&◌}
use mathlib.Core.List.{List}
use Prim.Native.Nat.{ℕ, ◌≤◌}
use lib.ListN.{get_or}
use lib.Ieee.{Float}
use borrow.Author.Tests.{le-ltb}
use Rattle.floats.proofs.Bools.{cond_both}
use Rattle.ranges.specs.Ranges.{phase_in, frequency_in, all_of}
use Rattle.nes_triangle.specs.Block.{state_in, nes_triangle}
use Rattle.words.specs.Face.{Face, no_bool, no_state}
use Rattle.words.proofs.Faces.{bad_state_face}
use Rattle.nes_triangle_face.specs.Words.{state_of, words_of, render_face}

outside : (w : List ℕ) (bits : ℕ) → 0x8000_0000 ≤ get_or w 2 0 → state_in (state_of w) bits ≡ false
unfolding state_of state_in all_of
outside w bits h = rw (le-ltb _ 0x8000_0000 h) (go (phase_in (state_of w).phase) (frequency_in (state_of w).frequency))
  where
    go : (a b : Bool) → (a && (b && false)) ≡ false
    go true true = refl
    go true false = refl
    go false b = refl

pub negative_step : (w : List ℕ) (frequency : Float) (bits : ℕ) (xs : List Float) → 0x8000_0000 ≤ get_or w 2 0 → render_face w frequency bits xs ≡ no_state w xs
negative_step w frequency bits xs h =
    cond_both (λ (f : Face). f ≡ no_state w xs) (no_bool (get_or w 3 0)) _ _ refl (bad_state_face nes_triangle words_of w (state_of w) _ refl (outside w bits h))
