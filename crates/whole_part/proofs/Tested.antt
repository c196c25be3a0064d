-- The whole part told by two tests and not by the bits: a float between a whole number and the next has that number for its whole part. Assumes nothing.
use mathlib.Core.Path.{◌≡◌, sym, ap, ◌∙◌, subst}
use mathlib.Core.Bool.{true}
use Prim.Native.Nat.{ℕ, ◌+◌, ◌*◌, ◌^◌, ◌≤◌, ◌<◌}
use native.Mathlib.Nat.{le_trans, lt_of_le_of_lt, div-eq_of_lt-le, mul-le-mul_right, suc-mul}
use native.Mathlib.Numerals.{add-one}
use native.Mathlib.Omega.{arith}
use lib.Dec.{T, lit≤, lit<}
use lib.Ieee.{Float, binary32, fits, le, lt}
use Rattle.floats.specs.F32.{whole32, ◌⊕◌, zero32, one32}
use Rattle.floats.proofs.Rounding.{rnd, rnd_exact}
use Rattle.floats.proofs.At.{At, huge, add_at}
use Rattle.floats.proofs.Order as Order
use Rattle.floats.proofs.Ticks.{tick, one_at}
use Rattle.floats.proofs.WholeNumbers.{whole_at}
use Rattle.floats.proofs.Ranges.{at_least_0, under_of, passed_le}
use Rattle.whole_part.specs.WholePart.{whole_part}
use Rattle.whole_part.proofs.Exact.{whole_part_at}

module _ (n : ℕ) (few : n ≤ 131071) where
  here : At (whole32 n) (n * 2 ^ 149)
  here = whole_at (le_trans few (lit≤ tt))

  -- the next whole number, since nothing is lost in the sum
  next : At (whole32 n ⊕ one32) ((n + 1) * 2 ^ 149)
  unfolding tick
  next =
      let sum : n * 2 ^ 149 + 2 ^ 149 ≡ (n + 1) * 2 ^ 149 = simp (add-one, suc-mul) in
      let exact : rnd (n * 2 ^ 149 + 2 ^ 149) 1 ≡ (n + 1) * 2 ^ 149 = ap (λ (k : ℕ). rnd k 1) sum ∙ rnd_exact (n + 1) 149 (omega arith) in
      let few_more : n + 1 ≤ 131072 = omega arith in
      let most : (n + 1) * 2 ^ 149 < huge = lt_of_le_of_lt (mul-le-mul_right (2 ^ 149) few_more) (lit< tt) in
      subst (λ (k : ℕ). At (whole32 n ⊕ one32) k) exact (add_at here one_at (subst (λ (k : ℕ). k < huge) (sym exact) most))

  pub whole_part_between : (x : Float) → T (fits binary32 x) → le (whole32 n) x ≡ true → lt x (whole32 n ⊕ one32) ≡ true → whole_part x ≡ n
  whole_part_between x t h k =
      let u = under_of t (Order.le_trans zero32 (whole32 n) x (at_least_0 here) h) k next in
      let is = div-eq_of_lt-le (2 ^ 149) (passed_le here u.at h) u.under in
      whole_part_at u.at (rw is (omega arith)) ∙ is
