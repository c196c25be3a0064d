-- The depth of a call, in plain values. Assumes nothing.
use Rattle.std.proofs.Common.{◌≡◌, ℕ, ◌-◌, ◌^◌, ◌<◌, ◌≤◌, Bool, true, false, cond, eqb, refl, arith, lit<, pow_pos, pow_mono, eqb-true}
use Rattle.nes_triangle.specs.Depth.{top_of}

pub two_steps : (bits : ℕ) → 1 ≤ bits → 2 ≤ 2 ^ bits
two_steps bits h = pow_mono {i = 1} {j = bits} h

pub few_steps : (bits : ℕ) → bits ≤ 16 → 2 ^ bits ≤ 65536
few_steps bits h = pow_mono {i = bits} {j = 16} h

-- a step lies at most at the top
pub top_most : (n step : ℕ) → step < n → step ≤ top_of n
top_most n step h = go (eqb n 2) refl
  where
    go : (o : Bool) → eqb n 2 ≡ o → step ≤ cond o 2 (n - 1)
    go true e = omega (arith, eqb-true n 2 e)
    go false e = omega arith

pub top_few : (bits : ℕ) → bits ≤ 16 → top_of (2 ^ bits) < 65536
top_few bits h = go (eqb (2 ^ bits) 2)
  where
    go : (o : Bool) → cond o 2 (2 ^ bits - 1) < 65536
    go true = lit< tt
    go false = omega (arith, few_steps bits h, pow_pos bits)

pub top_some : (n top : ℕ) → 2 ≤ n → top ≡ top_of n → 1 ≤ top
top_some n top h e = rw e (top_most n 1 (omega arith))
