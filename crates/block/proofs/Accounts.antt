-- The account of demand 3, for any oscillator: from the law of one sample to a run of samples, and from runs to what they come to together. Assumes nothing.
use Rattle.std.proofs.Common.{◌≡◌, ℕ, ◌+◌, ◌*◌, List, [], ◌∷◌, ◌++◌, length, pos, sym, refl, subst, zero-le, add_assoc, zero-add, zero-mul, arith, length-append}
use lib.IntN.{pos-+ℤ-pos, +ℤ_idl, +ℤ_idr, +ℤ_invr}
use lib.Ieee.{Float}
use Rattle.floats.proofs.Rounding.{Within}
use Rattle.floats.proofs.At.{At, at_units, at_unique}
use Rattle.floats.proofs.Integers.{within→abs}
use Rattle.block.specs.Account.{sum_units, Accounted}

-- the values of a list of steps, each not below zero, come to n units
pub data Sums : List Float → ℕ → Type 0 where
  none : Sums [] 0
  more : {x : Float} {xs : List Float} {a n : ℕ} → At x a → Sums xs n → Sums (x ∷ xs) (a + n)

pub sums_units : {xs : List Float} {n : ℕ} → Sums xs n → sum_units xs ≡ pos n
unfolding sum_units
sums_units none = refl
sums_units (more {a = a} {n = n} p s) = rw (at_units p, sums_units s) (pos-+ℤ-pos a n)

pub sums_both : {xs ys : List Float} {m n : ℕ} → Sums xs m → Sums ys n → Sums (xs ++ ys) (m + n)
sums_both {ys = ys} {n = k} none t = subst (Sums ys) (sym (zero-add k)) t
sums_both {ys = ys} {n = k} (more {x = x} {xs = xs} {a = a} {n = n} p s) t = subst (Sums (x ∷ xs ++ ys)) (sym (add_assoc a n k)) (more p (sums_both s t))

-- what demand 3 asks, from natural numbers
pub accounted : {first last : Float} {a b n : ℕ} {steps : List Float} (w e cycles : ℕ) → At first a → At last b → Sums steps n → Within (cycles * w + b) (a + n) (length steps * e) → Accounted w e first cycles last steps
accounted {a = a} {b = b} {n = n} {steps = steps} w e cycles p q s h = rw (at_units p, at_units q, sums_units s, pos-+ℤ-pos (cycles * w) b, pos-+ℤ-pos a n) (within→abs (cycles * w + b) (a + n) (length steps * e) h)

-- where nothing moved and nothing was counted
pub nothing : (w e : ℕ) (p : Float) → Accounted w e p 0 p []
unfolding sum_units
nothing w e p = rw (zero-mul w, +ℤ_idl, +ℤ_idr, +ℤ_invr) zero-le

-- What an oscillator brings: the law of one sample, for the phase whose wraps are its cycles of w units and the step that moves it, the k-th of a sample's.
pub record OneSample (w e : ℕ) (first step : Float) (cycles : ℕ) (last : Float) : Type 0 where
  pub a : ℕ
  pub b : ℕ
  pub n : ℕ
  pub first_at : At first a
  pub step_at : At step b
  pub last_at : At last n
  pub account : Within (cycles * w + n) (a + b) e

-- the same of a run of samples
pub record Steps (w e : ℕ) (first : Float) (cycles : ℕ) (last : Float) (steps : List Float) : Type 0 where
  pub a : ℕ
  pub b : ℕ
  pub n : ℕ
  pub first_at : At first a
  pub sums : Sums steps n
  pub last_at : At last b
  pub account : Within (cycles * w + b) (a + n) (length steps * e)

pub steps_accounted : {w e cycles : ℕ} {first last : Float} {steps : List Float} → Steps w e first cycles last steps → Accounted w e first cycles last steps
steps_accounted {w} {e} {cycles} r = accounted w e cycles r.first_at r.last_at r.sums r.account

-- runs joined: the errors add up
join : (w e c k a b d x y l m : ℕ) → Within (c * w + b) (a + x) (l * e) → Within (k * w + d) (b + y) (m * e) → Within ((c + k) * w + d) (a + (x + y)) ((l + m) * e)
join w e c k a b d x y l m p q = omega arith

pub steps_join : {w e c k : ℕ} {p q r : Float} {xs ys : List Float} → Steps w e p c q xs → Steps w e q k r ys → Steps w e p (c + k) r (xs ++ ys)
steps_join {w} {e} {c} {k} {xs = xs} {ys = ys} s t =
    let same : s.b ≡ t.a = at_unique s.last_at t.first_at in
    record {
      a = s.a;
      b = t.b;
      n = s.n + t.n;
      first_at = s.first_at;
      sums = sums_both s.sums t.sums;
      last_at = t.last_at;
      account = rw (length-append xs ys)
          (join w e c k s.a s.b t.b s.n t.n (length xs) (length ys) s.account (subst (λ (i : ℕ). Within (k * w + t.b) (i + t.n) (length ys * e)) (sym same) t.account));
    }

pub steps_none : {p : Float} {a : ℕ} (w e : ℕ) → At p a → Steps w e p 0 p []
steps_none {a = a} w e p = record { a = a; b = a; n = 0; first_at = p; sums = none; last_at = p; account = omega arith }

pub steps_one : {w e cycles : ℕ} {p f q : Float} → OneSample w e p f cycles q → Steps w e p cycles q (f ∷ [])
steps_one r = record { a = r.a; b = r.n; n = r.b + 0; first_at = r.first_at; sums = more r.step_at none; last_at = r.last_at; account = omega (arith, r.account) }

-- from one state to another, the cycles counted and the steps used: nothing happened, or the steps are accounted for
pub data Told {S : Type 0} (phase : S → Float) (w e : ℕ) (s : S) : S → ℕ → List Float → Type 0 where
  stood : Told phase w e s s 0 []
  went : {t : S} {cycles : ℕ} {steps : List Float} → Steps w e (phase s) cycles (phase t) steps → Told phase w e s t cycles steps

module _ {S : Type 0} {phase : S → Float} {w e : ℕ} where
  pub told_accounted : {s t : S} {cycles : ℕ} {steps : List Float} → Told phase w e s t cycles steps → Accounted w e (phase s) cycles (phase t) steps
  told_accounted {s} stood = nothing w e (phase s)
  told_accounted (went r) = steps_accounted r

  pub told_join : {s t u : S} {c k : ℕ} {xs ys : List Float} → Told phase w e s t c xs → Told phase w e t u k ys → Told phase w e s u (c + k) (xs ++ ys)
  told_join {s} {u = u} {k = k} {ys = ys} stood r = subst (λ (n : ℕ). Told phase w e s u n ys) (sym (zero-add k)) r
  told_join (went r) stood = went (steps_join r (steps_none w e r.last_at))
  told_join (went r) (went q) = went (steps_join r q)
