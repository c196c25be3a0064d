-- A glide between two values of either sign, both from -2 ^ 25 d to 2 ^ 25 d units for a power of two d: it is monotone, and misses its target by at most (n + 8) d units.
-- Assumes nothing.
use Rattle.std.proofs.Common.{◌≡◌, ℕ, suc, ◌+◌, ◌*◌, ◌^◌, ◌<◌, ◌≤◌, Bool, true, false, not, T, leb, sym, ap, ◌∙◌, subst, lt_of_le_of_lt, le_of_lt, one-mul, arith, lit<, leb→le, pow-add, leb-true}
use lib.Dec.{nleb→lt}
use lib.Ieee.{Float, le}
use Rattle.floats.proofs.Signed.{Is, le_is}
use Rattle.floats.proofs.At.{huge}
use Rattle.floats.proofs.Rounding.{Within, rnd, rnd_exact}
use Rattle.parameter_interpolator.specs.Interpolator.{new_interpolator}
use Rattle.parameter_interpolator.proofs.Climb.{rounds_power}
use Rattle.parameter_interpolator.proofs.Glide.{Way, step_of, glide_up, glide_down, monotone_up, monotone_down}

-- d, half of the last digit's weight below 2 ^ 25 d
pub record Weight (d : ℕ) : Type 0 where
  pub j : ℕ
  pub power : d ≡ 2 ^ j
  pub finite : 67108864 * d < huge

-- from p - q units to r - s, in n steps, and the target has room for the rounding of them all
pub record Across (v t : Float) (p q r s n d : ℕ) : Type 0 where
  pub weight : Weight d
  pub from : Is v p q
  pub to : Is t r s
  pub some : 0 < n
  pub few : n ≤ 2 ^ 24
  pub fine : n ≤ d
  pub from_high : p ≤ 33554432 * d + q
  pub from_low : q ≤ 33554432 * d + p
  pub to_high : r + (n + 8) * d ≤ 33554432 * d + s
  pub to_low : s + (n + 8) * d ≤ 33554432 * d + r

-- a step x on that way, of u - w units: not behind the value, past the target by at most e, and the last one no farther from it
pub record OnTheWay (x : Float) (p q r s e n k : ℕ) : Type 0 where
  pub u : ℕ
  pub w : ℕ
  pub is : Is x u w
  pub rising : s + p ≤ r + q → (p + w ≤ u + q) × (u + s ≤ r + w + e)
  pub falling : r + q < s + p → (u + q ≤ p + w) × (r + w ≤ u + s + e)
  pub ends : k ≡ n → Within (u + s) (r + w) e

-- from -L to H
pub record From (x : Float) (L H : ℕ) : Type 0 where
  pub u : ℕ
  pub w : ℕ
  pub is : Is x u w
  pub high : u ≤ H + w
  pub low : w ≤ L + u

-- both ways: up, and down with the sign changed
ways : {p q r s n d : ℕ} → Weight d → 0 < n → n ≤ 2 ^ 24 → n ≤ d → q ≤ 33554432 * d + p → r + (n + 8) * d ≤ 33554432 * d + s → s + p ≤ r + q
    → Way (33554432 * d) (16777216 * d) (67108864 * d) p q r s n
ways {p} {q} {r} {s} {n} {d} weight some few fine low high up = record {
  rounds = rounds_power weight.j weight.power (lt_of_le_of_lt (half d) weight.finite);
  some = some;
  few = few;
  up = up;
  far = record { held = held; finite = weight.finite; some = omega arith; most = omega arith };
  start = low;
  target = omega arith;
}
  where
    half : (d : ℕ) → 33554432 * d ≤ 67108864 * d
    half d = omega arith

    held : rnd (67108864 * d) 1 ≡ 67108864 * d
    held = subst (λ (x : ℕ). rnd x 1 ≡ x) (one-mul (2 ^ (26 + weight.j)) ∙ pow-add 2 26 weight.j ∙ ap (λ (k : ℕ). 67108864 * k) (sym weight.power)) (rnd_exact 1 (26 + weight.j) (lit< tt))

module _ {v t : Float} {p q r s n d : ℕ} (a : Across v t p q r s n d) where
  up : s + p ≤ r + q → Way (33554432 * d) (16777216 * d) (67108864 * d) p q r s n
  up h = ways a.weight a.some a.few a.fine a.from_low a.to_high h

  down : r + q ≤ s + p → Way (33554432 * d) (16777216 * d) (67108864 * d) q p s r n
  down h = ways a.weight a.some a.few a.fine a.from_high a.to_low h

  -- each step goes towards the target or stays
  pub monotone : (k : ℕ) → k < n
      → (le v t ≡ true → le (step_of k (new_interpolator v t n)) (step_of (suc k) (new_interpolator v t n)) ≡ true)
      × (le t v ≡ true → le (step_of (suc k) (new_interpolator v t n)) (step_of k (new_interpolator v t n)) ≡ true)
  monotone k K = (
    λ h. monotone_up a.to a.from (up (omega (arith, leb-true (p + s) (r + q) (sym (le_is a.from a.to) ∙ h)))) k K,
    λ h. monotone_down a.to a.from (down (omega (arith, leb-true (r + q) (p + s) (sym (le_is a.to a.from) ∙ h)))) k K,
  )

  -- what is missed
  pub misses : (k : ℕ) → k ≤ n → OnTheWay (step_of k (new_interpolator v t n)) p q r s ((n + 8) * d) n k
  misses k K = go (leb (s + p) (r + q)) (leb→le (s + p) (r + q)) (nleb→lt (s + p) (r + q))
    where
      go : (b : Bool) → (T b → s + p ≤ r + q) → (T (not b) → r + q < s + p) → OnTheWay (step_of k (new_interpolator v t n)) p q r s ((n + 8) * d) n k
      go true f _ =
          let g = glide_up a.to a.from (up (f tt)) k K in
          record { u = g.u; w = g.w; is = g.is; rising = λ h. omega (arith, g.rises, g.past); falling = λ h. absurd (omega (arith, f tt)); ends = λ e. omega (arith, g.past, g.ends e) }
      go false _ f =
          let g = glide_down a.to a.from (down (le_of_lt (f tt))) k K in
          record { u = g.w; w = g.u; is = g.is; rising = λ h. absurd (omega (arith, f tt)); falling = λ h. omega (arith, g.rises, g.past); ends = λ e. omega (arith, g.past, g.ends e) }

  -- no step leaves a room from -L to H that has the value, and the target with what may be missed
  pub stays_in : {L H : ℕ} (k : ℕ) → k ≤ n → p ≤ H + q → q ≤ L + p → r + (n + 8) * d ≤ H + s → s + (n + 8) * d ≤ L + r → From (step_of k (new_interpolator v t n)) L H
  stays_in {L} {H} k K from_high from_low to_high to_low =
      let o = misses k K in
      let e = go (leb (s + p) (r + q)) (leb→le (s + p) (r + q)) (nleb→lt (s + p) (r + q)) o.u o.w o.rising o.falling in
      record { u = o.u; w = o.w; is = o.is; high = e.0; low = e.1 }
    where
      go : (b : Bool) → (T b → s + p ≤ r + q) → (T (not b) → r + q < s + p) → (u w : ℕ) → (s + p ≤ r + q → (p + w ≤ u + q) × (u + s ≤ r + w + (n + 8) * d))
          → (r + q < s + p → (u + q ≤ p + w) × (r + w ≤ u + s + (n + 8) * d)) → (u ≤ H + w) × (w ≤ L + u)
      go true f _ u w rising _ = omega (arith, rising (f tt))
      go false _ f u w _ falling = omega (arith, falling (f tt))
