-- Every public function's contract, as the kit reads it, determines its outcome. Assumes nothing.
use borrow.Fn.Kinds.{ended_of}
use mathlib.Core.Path.{◌≡◌, refl}
use mathlib.Core.List.{List}
use Prim.Native.Nat.{ℕ}
use contract.Lifetimes.{Lfts}
use denote.Ref.{Bor}
use Rattle.floats.specs.Tightness.{Determines}
use Rattle.floats.proofs.Tightness.{coincide}
use Rattle.jobs.proofs.«record» as part
use Rattle.jobs.proofs.read

-- what is returned is a reference: the bytes that it shows are determined
pub record_tight : (κs : Lfts 1) (list r q : Bor (List ℕ)) (k : ℕ) → part.Reads.Learnt κs (list, (k, tt)) r (list, (k, tt)) → part.Reads.Learnt κs (list, (k, tt)) q (list, (k, tt)) → r.now ≡ q.now
record_tight κs list r q k h e = coincide h e

pub read_tight : Determines (ended_of _ read.Kinds.ps read.Kinds.r) read.Reads.Learnt
read_tight κs a r q v w h k = (coincide h k, refl)
