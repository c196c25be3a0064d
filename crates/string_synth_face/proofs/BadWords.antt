-- A word for `segment` that is a negative number in two's complement is a state outside its range, and refused as such: with 3, or with 1 where the block is too long, or with 2 where
-- the registration has not seven entries. Words and samples stay. Assumes nothing.
use mathlib.Core.Path.{◌≡◌, refl}
use mathlib.Core.Bool.{Bool, true, false, ◌&&◌, cond}
use mathlib.Core.List.{List}
use Prim.Native.Nat.{ℕ, ◌≤◌}
use lib.Dec.{eqb, leb}
use lib.ListN.{length, get_or}
use lib.Ieee.{Float}
use borrow.Author.Tests.{le-ltb}
use Rattle.ranges.specs.Ranges.{all_of}
use Rattle.block.specs.Checks.{here, later}
use Rattle.string_synth.specs.Block.{string_phase_in, state_in, string_synth}
use Rattle.words.specs.Face.{refused_face}
use Rattle.words.proofs.Faces.{refused_face_lem}
use Rattle.string_synth_face.specs.Words.{state_of, words_of, render_face}

outside : (w : List ℕ) → 0x8000_0000 ≤ get_or w 2 0 → state_in (state_of w) ≡ false
unfolding state_of state_in all_of
outside w h = rw (le-ltb _ 0x8000_0000 h) (go (string_phase_in (state_of w).phase))
  where
    go : (a : Bool) → (a && false) ≡ false
    go true = refl
    go false = refl

pub negative_segment : (w : List ℕ) (frequency : Float) (registration : List Float) (gain : Float) (xs : List Float) → 0x8000_0000 ≤ get_or w 2 0
    → render_face w frequency registration gain xs ≡ refused_face (cond (leb (length xs) 4096) (cond (eqb (length registration) 7) 3 2) 1) 0 w xs
negative_segment w frequency registration gain xs h = go (leb (length xs) 4096) (eqb (length registration) 7) refl refl
  where
    go : (b c : Bool) → leb (length xs) 4096 ≡ b → eqb (length registration) 7 ≡ c → render_face w frequency registration gain xs ≡ refused_face (cond b (cond c 3 2) 1) 0 w xs
    go false c e f = refused_face_lem string_synth words_of w (state_of w) _ (here e) refl
    go true false e f = refused_face_lem string_synth words_of w (state_of w) _ (later e (here f)) refl
    go true true e f = refused_face_lem string_synth words_of w (state_of w) _ (later e (later f (here (outside w h)))) refl
