-- Tests that all pass, and tests joined one after the other. Assumes nothing.
use mathlib.Core.Path.{◌≡◌, refl, sym, ◌∙◌}
use mathlib.Core.Bool.{Bool, true, ◌&&◌, and_assoc, and-true}
use mathlib.Core.List.{List, [], ◌∷◌}
use Rattle.floats.proofs.Bools.{and_both}
use Rattle.ranges.specs.Ranges.{all_of}

-- of tests that all pass, each passes
abbrev pub Each : List Bool → Type 0
Each [] = Unit {0}
Each (b ∷ bs) = (b ≡ true) × Each bs

pub each_of : (bs : List Bool) → all_of bs ≡ true → Each bs
unfolding all_of
each_of [] h = tt
each_of (b ∷ bs) h = let p = and_both b (all_of bs) h in (p.0, each_of bs p.1)

pub of_each : (bs : List Bool) → Each bs → all_of bs ≡ true
unfolding all_of
of_each [] e = refl
of_each (b ∷ bs) e = rw e.0 (of_each bs e.1)

-- tests joined one after the other, as code joins them
abbrev pub joined : Bool → List Bool → Bool
joined b [] = b
joined b (c ∷ cs) = joined (b && c) cs

pub joined_all : (b : Bool) (bs : List Bool) → joined b bs ≡ all_of (b ∷ bs)
unfolding all_of
joined_all b [] = sym (and-true b)
joined_all b (c ∷ cs) = joined_all (b && c) cs ∙ and_assoc b c (all_of cs)
