-- The whole part of a float of n units of 2 ^ -149, where it lies below the top. Assumes nothing.
use mathlib.Core.Path.{◌≡◌, ap, ◌∙◌}
use Prim.Native.Nat.{ℕ, ◌/◌, ◌^◌, ◌<◌, min}
use native.Mathlib.Nat.{lt_of_lt_of_le}
use native.Mathlib.Omega.{arith}
use lib.Dec.{lit≤}
use lib.Ieee.{Float}
use Rattle.floats.proofs.At.{At}
use Rattle.floats.proofs.PowerOfTwo.{unsigned_at}
use Rattle.whole_part.specs.WholePart.{whole_part}

uncapped : (k : ℕ) → k < 131072 → min k 131072 ≡ k
uncapped k h = omega arith

pub whole_part_at : {x : Float} {n : ℕ} → At x n → n / 2 ^ 149 < 131072 → whole_part x ≡ n / 2 ^ 149
whole_part_at {n = n} p h = ap (λ (k : ℕ). min k 131072) (unsigned_at 32 p (lt_of_lt_of_le h (lit≤ tt))) ∙ uncapped (n / 2 ^ 149) h
