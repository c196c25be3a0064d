-- Every public function's contract, as the kit reads it, determines all: of `compose` number, length and bytes. Assumes nothing.
use borrow.Fn.Kinds.{ended_of}
use mathlib.Core.Path.{◌≡◌, refl, sym, ap, ◌∙◌}
use mathlib.Core.Bool.{cond}
use Prim.Native.Nat.{ℕ}
use lib.Dec.{eqb}
use Rattle.floats.specs.Tightness.{Determines}
use Rattle.floats.proofs.Tightness.{coincide}
use Rattle.std.specs.Prelude.{Result, Ok, Err}
use Rattle.wave.specs.declared.Refusal.TheVariants.{BadParam, NoRoom}
use Rattle.stems.specs.declared.Refusal.{Refusal}
use Rattle.stems.specs.declared.Refusal.TheVariants.{BadInput, Wave}
use Rattle.stems.specs.Compose.{Handed, number_of, count_of}
use Rattle.stems.proofs.number
use Rattle.stems.proofs.count
use Rattle.stems.proofs.compose

-- the answer with this number and this count
answered : ℕ → ℕ → Result ℕ Refusal
answered number count = cond (eqb number 0) (Ok count) (Err (cond (eqb number 8) BadInput (Wave (cond (eqb number 4) BadParam NoRoom))))

by_number : (r : Result ℕ Refusal) → answered (number_of r) (count_of r) ≡ r
unfolding answered
by_number (Ok n) = refl
by_number (Err BadInput) = refl
by_number (Err (Wave BadParam)) = refl
by_number (Err (Wave NoRoom)) = refl

pub number_tight : Determines (ended_of _ number.Kinds.ps number.Kinds.r) number.Reads.Learnt
number_tight κs a r q v w h k = (coincide h k, refl)

pub count_tight : Determines (ended_of _ count.Kinds.ps count.Kinds.r) count.Reads.Learnt
count_tight κs a r q v w h k = (coincide h k, refl)

pub compose_tight : Determines (ended_of _ compose.Kinds.ps compose.Kinds.r) compose.Reads.Learnt
compose_tight κs a r q v w h k =
    let same = coincide h k in
    (sym (by_number r) ∙ ap (λ (x : Handed). answered x.number x.count) same ∙ by_number q, ap (λ (x : Handed). (tt, (x.bytes, tt))) same)
