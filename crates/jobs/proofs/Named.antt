-- A number that names a kind is that kind's, and one that names none is a malformed record's. Assumes nothing.
use Rattle.std.specs.Prelude.{Option, None, Some}
use mathlib.Core.Path.{◌≡◌, refl, ap, ◌∙◌}
use mathlib.Core.List.{List}
use Prim.Native.Nat.{ℕ, zero, suc}
use native.Mathlib.Omega.{arith}
use borrow.Author.Tests.{ne_eqb}
use Rattle.jobs.specs.declared.kind.Kind.{Kind}
use Rattle.jobs.specs.Kinds.{number_of, kind_of}
use Rattle.jobs.specs.Record.{by_kind_of}

-- the kind's number, or else this one
abbrev number_or : ℕ → Option Kind → ℕ
number_or n None = n
number_or n (Some kind) = number_of kind

itself : (n : ℕ) → n ≡ number_or n (kind_of n)
itself zero = refl
itself (suc zero) = refl
itself (suc (suc zero)) = refl
itself (suc (suc (suc zero))) = refl
itself (suc (suc (suc (suc zero)))) = refl
itself (suc (suc (suc (suc (suc zero))))) = refl
itself (suc (suc (suc (suc (suc (suc zero)))))) = refl
itself (suc (suc (suc (suc (suc (suc (suc n))))))) = refl

pub named : {n : ℕ} {kind : Kind} → kind_of n ≡ Some kind → n ≡ number_of kind
named {n} h = itself n ∙ ap (number_or n) h

pub nameless : (n : ℕ) (p : List ℕ) → kind_of n ≡ None → by_kind_of n p ≡ None
unfolding by_kind_of
nameless zero p h = refl
nameless (suc zero) p h = absurd (cc)
nameless (suc (suc zero)) p h = absurd (cc)
nameless (suc (suc (suc zero))) p h = absurd (cc)
nameless (suc (suc (suc (suc zero)))) p h = absurd (cc)
nameless (suc (suc (suc (suc (suc zero))))) p h = absurd (cc)
nameless (suc (suc (suc (suc (suc (suc zero)))))) p h = absurd (cc)
nameless (suc (suc (suc (suc (suc (suc (suc n))))))) p h = let m = suc (suc (suc (suc (suc (suc (suc n)))))) in rw (ne_eqb m 1 (λ h. omega arith), ne_eqb m 2 (λ h. omega arith), ne_eqb m 3 (λ h. omega arith), ne_eqb m 4 (λ h. omega arith), ne_eqb m 5 (λ h. omega arith), ne_eqb m 6 (λ h. omega arith))
