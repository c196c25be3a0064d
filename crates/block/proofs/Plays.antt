-- The loop over a buffer, for any oscillator: what one turn does to what is left. Assumes nothing.
use Rattle.std.proofs.Common.{◌≡◌, ℕ, suc, ◌+◌, ◌%◌, ◌^◌, ◌<◌, ◌≤◌, Bool, true, false, cond, List, [], ◌∷◌, ◌++◌, length, sym, refl, ap, ◌∙◌, subst, add-zero, mod-eq_of_lt, arith}
use lib.Ieee.{Float, binary32}
use lib.Ieee.Fits.{add-fits}
use Rattle.parameter_interpolator.specs.declared.ParameterInterpolator.{ParameterInterpolator}
use Rattle.block.specs.declared.Counts.{Counts}
use Rattle.rooms.specs.declared.Room.{Room}
use Rattle.std.specs.Prelude.{Option}
use Rattle.std.specs.Prelude.{Some, None}
use Rattle.block.specs.Counting.{no_counts, plus, modulo32, one_if, late}
use Rattle.rooms.specs.Steps.{moved, values, steps_of, all_in, later, first_outside}
use Rattle.block.specs.declared.sample.Sample.{Sample}
use Rattle.block.specs.Play.{Heard}
use Rattle.block.specs.Limits.{Few}
use Rattle.block.specs.Account.{AllFit}
use Rattle.block.specs.Fit.{Inside}
use Rattle.block.specs.Voices.{Kept, adding}
use Rattle.rooms.proofs.Padding.{moved_length, values_length}

pub one_most : (b : Bool) → one_if b ≤ 1
one_most true = omega arith
one_most false = omega arith

pub few_none : Few 0 no_counts
few_none = record { cycles = omega arith; rises = omega arith; falls = omega arith; cuts = omega arith }

pub few_more : {i : ℕ} {a b : Counts} → Few i a → Few 1 b → Few (i + 1) (plus a b)
few_more x y = record {
  cycles = omega (arith, x.cycles, y.cycles);
  rises = omega (arith, x.rises, y.rises);
  falls = omega (arith, x.falls, y.falls);
  cuts = omega (arith, x.cuts, y.cuts);
}

-- few counts are few of more samples too
pub few_most : {m n : ℕ} {c : Counts} → m ≤ n → Few m c → Few n c
few_most h f = record { cycles = omega (arith, f.cycles); rises = omega (arith, f.rises); falls = omega (arith, f.falls); cuts = omega (arith, f.cuts) }

-- so few that 32 bits hold them
pub in_32 : (n : ℕ) → n ≤ 12291 → n % 2 ^ 32 ≡ n
in_32 n h = mod-eq_of_lt {n = n} {m = 2 ^ 32} (omega arith)

pub few_fit : {i : ℕ} {c : Counts} → i ≤ 4097 → Few i c → modulo32 c ≡ c
few_fit {i} {c} h f =
    rw (in_32 c.cycles (omega (arith, f.cycles)), in_32 c.rises (omega (arith, f.rises)), in_32 c.falls (omega (arith, f.falls)))
    (rw (in_32 c.cuts (omega (arith, f.cuts)), in_32 c.late_rises (omega (arith, f.rises)), in_32 c.late_falls (omega (arith, f.falls))))

-- and both late ones together
pub late_fits : {i : ℕ} {c : Counts} → i ≤ 4097 → Few i c → late c ≡ c.late_rises + c.late_falls
late_fits {i} {c} h f = in_32 (c.late_rises + c.late_falls) (omega (arith, f.rises, f.falls))

-- every step that an interpolator gives is a binary32 value
pub steps_fit : (ps : List ParameterInterpolator) → AllFit (values (moved ps))
unfolding values moved
steps_fit [] = tt
steps_fit (p ∷ ps) = (add-fits binary32 p.value p.increment, steps_fit ps)

-- where no step of suc m samples lies outside, the first sample's lie inside, and no other's lies outside
pub nowhere_first : (rs : List Room) (m : ℕ) (ps : List ParameterInterpolator) → length ps ≡ length rs → first_outside rs (steps_of (suc m) ps) ≡ None
    → Inside rs (values (moved ps)) × (first_outside rs (steps_of m (moved ps)) ≡ None)
unfolding first_outside steps_of
nowhere_first rs m ps l h =
    let g = go (all_in rs (values (moved ps))) (first_outside rs (steps_of m (moved ps))) h in
    (record { long = values_length (moved ps) ∙ moved_length ps ∙ l; rooms = g.0; fit = steps_fit ps }, g.1)
  where
    go : (b : Bool) (f : Option ℕ) → cond b (later f) (Some 0) ≡ None → (b ≡ true) × (f ≡ None)
    go true None h = (refl, refl)
    go true (Some i) h = let z : ◌≡◌ {A = ℕ} 0 1 = cc in absurd (omega arith)
    go false f h = let z : ◌≡◌ {A = ℕ} 0 1 = cc in absurd (omega arith)

abbrev pub after : {S : Type 0} → List Float → Heard S → Heard S
after xs h = record { state = h.state; samples = xs ++ h.samples; counts = h.counts }

-- what an oscillator brings: its sample, its rooms, what holds of a state, and that a sample keeps it
abbrev pub Keeps : {S : Type 0} → (S → List Float → Float → Sample S) → List Room → (S → Type 0) → Type 0
Keeps {S} make rooms Holds = (s : S) (steps : List Float) (x : Float) → Holds s → Inside rooms steps → Kept Holds (make s steps x)

-- and so a sample that is made so
pub kept_by : {S : Type 0} {make : S → List Float → Float → Sample S} {rooms : List Room} {Holds : S → Type 0} → Keeps make rooms Holds
    → {s : S} {steps : List Float} {x : Float} → Holds s → Inside rooms steps → {t : Sample S} → t ≡ make s steps x → Kept Holds t
kept_by {Holds = Holds} keeps {s} {steps} {x} h i e = subst (Kept Holds) (sym e) (keeps s steps x h i)

-- counts that 32 bits hold
abbrev pub Whole : Counts → Type 0
Whole c = (c.cycles < 2 ^ 32) × (c.rises < 2 ^ 32) × (c.falls < 2 ^ 32) × (c.cuts < 2 ^ 32) × (c.late_rises < 2 ^ 32) × (c.late_falls < 2 ^ 32)

whole : (c : Counts) → Whole c → modulo32 c ≡ c
whole c (h, i, j, k, l, m) = rw (mod-eq_of_lt h, mod-eq_of_lt i, mod-eq_of_lt j, mod-eq_of_lt k, mod-eq_of_lt l, mod-eq_of_lt m) refl

-- a sample that counts nothing leaves them as they are
pub adding_none : {S : Type 0} {c : Counts} {t u : Sample S} → Whole c → t.counts ≡ no_counts → t ≡ u → record { state = t.state; sample = t.sample; counts = c } ≡ adding c u
adding_none {c = c} {t} w none e = rw (← e, none) (simp add-zero (ap (λ (k : Counts). record { state = t.state; sample = t.sample; counts = k }) (sym (whole c w))))
