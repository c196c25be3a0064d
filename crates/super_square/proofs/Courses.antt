-- The super square's parameters are as the guard presumes them: of a valid state, and of parameters that passed their test, each target is 2 ^ -24 or more. Assumes nothing.
use mathlib.Core.Path.{◌≡◌, refl}
use mathlib.Core.Bool.{Bool, true, false, cond}
use Prim.Native.Nat.{ℕ, ◌+◌, ◌-◌, ◌*◌, ◌^◌, ◌≤◌, ◌<◌}
use native.Mathlib.Nat.{le_trans, lt_of_le_of_lt, mul-le-mul}
use native.Mathlib.Omega.{arith}
use lib.Dec.{T, lit<}
use lib.Ieee.{Float, binary32, lt, fits, of_bits}
use lib.Ieee.Fits.{mul-fits}
use Rattle.floats.specs.F32.{f32, ◌⊕◌, ◌⊖◌, ◌⊗◌, half32, one32, sixteen32, max_frequency}
use Rattle.floats.proofs.Bools.{and_both}
use Rattle.floats.proofs.At.{At, at_rnd, at_huge, add_at, sub_at}
use Rattle.floats.proofs.Rounding.{rnd, rnd_up, rnd_dn, rnd_exact}
use Rattle.floats.proofs.Ranges.{UpTo, upto_of, failed_lt, mul_le, mul_le_left, mul_ge}
use Rattle.floats.proofs.Ticks.{tick, cycle, cycle_is, one_at, half_at, sixteen_at}
use Rattle.ranges.specs.Ranges.{within, parameter_frequency_in, unit_in}
use Rattle.ranges.specs.Targets.{clipped}
use Rattle.ranges.proofs.AllOf.{each_of}
use Rattle.ranges.proofs.TargetRanges.{least_target, least_target_at, least_max, clipped_in, clipped_fits, parameter_at, frequency_target_lem}
use Rattle.rooms.proofs.Guard.{AllPresumed}
use Rattle.super_square.specs.declared.State.{State}
use Rattle.super_square.specs.Block.{parameters_in, factor_of}
use Rattle.super_square.specs.Private.{Valid, courses}

-- ---- the slave's factor is a half or more
-- a sum of at least a
record AtLeast (x : Float) (a : ℕ) : Type 0 where
  n : ℕ
  at : At x n
  least : a ≤ n

sum_held : rnd (32 * cycle) 1 ≡ 32 * cycle
unfolding tick
sum_held = rnd_exact 1 154 (lit< tt)

sum_finite : 32 * cycle < 2 ^ 277
unfolding tick
sum_finite = lit< tt

sum : {x y : Float} {a b : ℕ} → At x a → At y b → a ≤ cycle → b ≤ 16 * cycle → AtLeast (x ⊕ y) a
sum {a = a} {b = b} X Y h l =
    record { n = rnd (a + b) 1; at = add_at X Y (lt_of_le_of_lt (rnd_up sum_held (omega arith)) sum_finite); least = rnd_dn (at_rnd X) (omega arith) }

below_at : At (f32 0x3f02_8f5c) (8556380 * tick)
unfolding tick fits of_bits
below_at = record { fit = tt; reads = refl }

slope_at : At (f32 0x3f7a_e148) (16441672 * tick)
unfolding tick fits of_bits
slope_at = record { fit = tt; reads = refl }

factor_least : (shape : Float) → T (fits binary32 shape) → unit_in shape ≡ true → AtLeast (factor_of shape) (8388608 * tick)
factor_least shape t h = go (lt shape half32) refl
  where
    s : UpTo shape cycle
    s = let p = and_both _ _ h in upto_of t p.0 p.1 one_at

    go : (b : Bool) → lt shape half32 ≡ b → AtLeast (cond b (f32 0x3f02_8f5c ⊕ f32 0x3f7a_e148 ⊗ shape) (one32 ⊕ sixteen32 ⊗ (shape ⊖ half32) ⊗ (shape ⊖ half32))) (8388608 * tick)
    go true e =
        let p = mul_le slope_at s.at (omega arith) in
        let r = sum below_at p.at (omega arith) (omega (arith, p.most, s.most)) in
        record { n = r.n; at = r.at; least = omega (arith, r.least) }
    go false e =
        let l : rnd (s.n - 8388608 * tick) 1 ≤ cycle = rnd_up (at_rnd one_at) (omega (arith, s.most)) in
        let d = sub_at s.at half_at (failed_lt s.at half_at e) (lt_of_le_of_lt l (at_huge one_at)) in
        let p = mul_le_left sixteen_at d l in
        let q = mul_le_left p.at d l in
        let r = sum one_at q.at (omega arith) (omega (arith, q.most, p.most)) in
        record { n = r.n; at = r.at; least = omega (arith, r.least) }

-- ---- so the slave's target, clipped, is 2 ^ -24 or more: the frequency is 16 ticks or more
pub slave_target : (frequency shape : Float) → T (fits binary32 frequency) → T (fits binary32 shape) → parameter_frequency_in frequency ≡ true → unit_in shape ≡ true
    → within least_target max_frequency (clipped (frequency ⊗ factor_of shape)) ≡ true
slave_target frequency shape f s h l =
    let F = parameter_at f h in
    let G = factor_least shape s l in
    clipped_in least_target (frequency ⊗ factor_of shape) (mul_ge F.0 G.at least_target_at F.2 (rw (← cycle_is) (le_trans (squares tick) (mul-le-mul F.1 G.least)))) least_max
  where
    squares : (t : ℕ) → t * (16777216 * t) ≤ 16 * t * (8388608 * t)
    squares t = omega arith

pub presumed : (s : State) (frequency shape : Float) → T (fits binary32 s.master_frequency) → T (fits binary32 s.slave_frequency) → T (fits binary32 frequency) → T (fits binary32 shape)
    → Valid s → parameters_in frequency shape ≡ true → AllPresumed (courses s frequency shape)
unfolding parameters_in
presumed s frequency shape m v f t valid h =
    let e = each_of _ h in (
      record { value_fits = m; target_fits = clipped_fits frequency f; value = valid.master_frequency; target = frequency_target_lem frequency e.0 },
      (
        record {
          value_fits = v;
          target_fits = clipped_fits (frequency ⊗ factor_of shape) (mul-fits binary32 frequency (factor_of shape));
          value = valid.slave_frequency;
          target = slave_target frequency shape f t e.0 e.1.0;
        },
        tt,
      ),
    )
