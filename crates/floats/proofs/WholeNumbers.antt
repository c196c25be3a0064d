-- A whole number of up to 24 binary digits as a float: nothing is lost. Assumes nothing.
use mathlib.Core.Path.{sym, ap, ◌∙◌}
use mathlib.Core.Bool.{true, false, true≢false}
use Prim.Native.Nat.{ℕ, ◌*◌, ◌^◌, ◌≤◌}
use native.Mathlib.Nat.{mul-one, mul_right_comm}
use lib.IntN.{pos}
use lib.Ieee.{Float, nan, inf, fin, binary32, up, round, of_int}
use lib.Ieee.Back.{round_whole}
use lib.Ieee.Exact.{HasValue}
use lib.Ieee.Fits.{of_int-fits}
use Rattle.floats.specs.F32.{whole32}
use Rattle.floats.proofs.At.{At, Reads}

pub whole_at : {n : ℕ} → n ≤ 2 ^ 24 → At (whole32 n) (n * 2 ^ 149)
unfolding of_int
whole_at {n} h = record { fit = of_int-fits binary32 (pos n); reads = go (round binary32 false n 1) (round_whole binary32 false n h) }
  where
    go : (x : Float) → HasValue x false n 1 → Reads x (n * 2 ^ 149)
    go nan v = v
    go (inf s) v = v
    go (fin true m e) v = absurd (true≢false v.0)
    go (fin false m e) v = ap (λ (k : ℕ). k * 2 ^ 149) (sym (mul-one (m * up e)) ∙ v.1) ∙ mul_right_comm n _ (2 ^ 149)
