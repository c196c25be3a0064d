-- What it is for a contract to determine: two outcomes that satisfy it coincide. The theorems of every Tight.antt are stated by it. Assumes nothing.
use Rattle.std.specs.Prelude.{◌≡◌}
use contract.Lifetimes.{Lfts}
use denote.Triple.Entry.{Args, Res}
use denote.Triple.Clauses.{Ended, Lasts, AtExit, at_exit}

-- `learnt` is a contract as the kit reads it, `Reads.Learnt` of its function. An outcome is what is returned, r or q, and what is left in every lent place, v or w.
abbrev pub Determines : (T : Ended) → ((κs : Lfts T.signature.lifetimes) → Args T.signature κs → Res T.signature κs → AtExit T κs → Type 0) → Type 0
Determines T learnt =
    (κs : Lfts T.signature.lifetimes) (a : Args T.signature κs) (r q : Res T.signature κs) (v w : Lasts T κs a)
    → learnt κs a r (at_exit T κs a v) → learnt κs a q (at_exit T κs a w) → (r ≡ q) × (v ≡ w)
