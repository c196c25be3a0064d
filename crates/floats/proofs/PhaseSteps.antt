-- One sample of a phase that wraps at c: the step is added, and where the sum is c or more, c is taken off and a cycle counted. The account is off by a rounding of the sum at most.
-- Stated once for every oscillator: c is 1.0 or 8.0, and B is the most that the sum can be. Assumes nothing.
use mathlib.Core.Path.{◌≡◌, refl, sym}
use Prim.Native.Nat.{ℕ, ◌+◌, ◌*◌, ◌^◌, ◌≤◌, ◌<◌, ◌-◌}
use native.Mathlib.Nat.{lt_of_le_of_lt}
use native.Mathlib.Omega.{arith}
use borrow.Author.Tests.{leb-true, leb-false}
use mathlib.Core.Bool.{Bool, true, false, cond}
use lib.Dec.{leb, lit<}
use lib.Ieee.{Float, le, size}
use Rattle.floats.specs.F32.{◌⊕◌, ◌⊖◌, one32, eight32}
use Rattle.floats.proofs.Rounding.{Within, rnd, rnd_off}
use Rattle.floats.proofs.At.{At, huge, le_at}
use Rattle.floats.proofs.Ticks.{tick, cycle, one_at, eight_at, double, wrap, Sum, sum_with}

-- a cycle of w units, that is c, in which a sum of at most B rounds by e at most
pub record Wrapping (c : Float) (w e B : ℕ) : Type 0 where
  pub j : ℕ
  pub length : w ≡ 2 ^ (24 + j)
  pub off : e ≡ 2 ^ j
  pub limit : At c w
  pub held : rnd B 1 ≡ B
  pub finite : B < huge
  pub short : B < w + w

-- a phase of a units and a step of b became the phase p', below R, and k cycles of w units: the account is off by e at most
pub record Step (p' : Float) (k a b w e R : ℕ) : Type 0 where
  pub n : ℕ
  pub at : At p' n
  pub stays : n < R
  pub once : k ≤ 1
  pub account : Within (k * w + n) (a + b) e

module _ {c : Float} {w e B : ℕ} (t : Wrapping c w e B) where
  -- what is known of the sum
  pub phase_sum : {p f : Float} {a b : ℕ} → At p a → At f b → a + b ≤ B → Sum (p ⊕ f) a b B e
  phase_sum {a = a} {b = b} P F h = sum_with B e P F t.held t.finite h (rw t.off (rnd_off (a + b) t.j (lt_of_le_of_lt h (rw (double t.j t.length) at t.short))))

  module _ {s : Float} {a b : ℕ} (z : Sum s a b B e) where
    pub phase_stays : {R : ℕ} → z.n < R → Step s 0 a b w e R
    phase_stays h = record { n = z.n; at = z.at; stays = h; once = omega arith; account = omega (arith, z.near) }

    pub phase_wraps : w ≤ z.n → Step (s ⊖ c) 1 a b w e w
    phase_wraps h =
        let l : z.n < w + w = lt_of_le_of_lt z.top t.short in
        record { n = z.n - w; at = wrap t.j t.length z.at t.limit h l; stays = omega arith; once = omega arith; account = omega (arith, z.near) }

    -- by any test that says whether the sum is c or more
    pub phase_by : (o : Bool) → o ≡ leb w z.n → Step (cond o (s ⊖ c) s) (cond o 1 0) a b w e w
    phase_by true h = phase_wraps (leb-true w z.n (sym h))
    phase_by false h = phase_stays (leb-false w z.n (sym h))

  pub phase_stepped : {p f : Float} {a b : ℕ} → At p a → At f b → a + b ≤ B
      → Step (cond (le c (p ⊕ f)) (p ⊕ f ⊖ c) (p ⊕ f)) (cond (le c (p ⊕ f)) 1 0) a b w e w
  phase_stepped {p} {f} P F h = let z = phase_sum P F h in phase_by z (le c (p ⊕ f)) (le_at t.limit z.at)

-- ---- the three ranges
-- a phase below 1, and a step of at most 17/64: 81/64 together
pub wraps_at_1 : Wrapping one32 cycle tick (21233664 * tick)
unfolding tick rnd size
wraps_at_1 = record { j = 125; length = refl; off = refl; limit = one_at; held = refl; finite = lit< tt; short = lit< tt }

-- a saw's phase that stays above 1 until it falls, and so is 81/64 at most before the step: 98/64 together
pub saw_wraps_at_1 : Wrapping one32 cycle tick (25690112 * tick)
unfolding tick rnd size
saw_wraps_at_1 = record { j = 125; length = refl; off = refl; limit = one_at; held = refl; finite = lit< tt; short = lit< tt }

-- a string's phase below 8, and a step of at most 17/32
pub wraps_at_8 : Wrapping eight32 (8 * cycle) (8 * tick) (143130624 * tick)
unfolding tick rnd size
wraps_at_8 = record { j = 128; length = refl; off = refl; limit = eight_at; held = refl; finite = lit< tt; short = lit< tt }

-- one sample of a phase below 1
pub phase_step : {p f : Float} {a b : ℕ} → At p a → At f b → a < cycle → b ≤ 4456448 * tick
    → Step (cond (le one32 (p ⊕ f)) (p ⊕ f ⊖ one32) (p ⊕ f)) (cond (le one32 (p ⊕ f)) 1 0) a b cycle tick cycle
phase_step P F hp hf = phase_stepped wraps_at_1 P F (omega arith)
