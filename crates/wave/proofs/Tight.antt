-- Every public function's contract, as the kit reads it, determines its outcome. Assumes nothing.
use borrow.Fn.Kinds.{ended_of}
use mathlib.Core.Path.{◌≡◌, refl, ap}
use native.Mathlib.Omega.{arith}
use Rattle.floats.specs.Tightness.{Determines}
use Rattle.floats.proofs.Tightness.{coincide}
use Rattle.std.specs.Prelude.{Result, Ok, Err}
use Rattle.wave.specs.declared.Refusal.{Refusal}
use Rattle.wave.specs.declared.Refusal.TheVariants.{BadParam, NoRoom}
use Rattle.wave.specs.Write.{Handed, number_of}
use Rattle.wave.proofs.number
use Rattle.wave.proofs.write

same_written : (r q : Result (Unit {0}) Refusal) → number_of r ≡ number_of q → r ≡ q
same_written (Ok u) (Ok v) h = refl
same_written (Ok u) (Err BadParam) h = absurd (omega (arith, h))
same_written (Ok u) (Err NoRoom) h = absurd (omega (arith, h))
same_written (Err BadParam) (Ok v) h = absurd (omega (arith, h))
same_written (Err BadParam) (Err BadParam) h = refl
same_written (Err BadParam) (Err NoRoom) h = absurd (omega (arith, h))
same_written (Err NoRoom) (Ok v) h = absurd (omega (arith, h))
same_written (Err NoRoom) (Err BadParam) h = absurd (omega (arith, h))
same_written (Err NoRoom) (Err NoRoom) h = refl

pub number_tight : Determines (ended_of _ number.Kinds.ps number.Kinds.r) number.Reads.Learnt
number_tight κs a r q v w h k = (coincide h k, refl)

pub write_tight : Determines (ended_of _ write.Kinds.ps write.Kinds.r) write.Reads.Learnt
write_tight κs a r q v w h k =
    let same = coincide h k in
    (same_written r q (ap (λ (x : Handed). x.number) same), ap (λ (x : Handed). (tt, (tt, (x.bytes, tt)))) same)
