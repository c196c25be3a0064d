-- A glide between two values that are not negative. No step is above both by more than rounding; and none comes down to 0, in a block of up to 4,096 samples to a target of 2 ^ -24
-- or more, from a value of up to 4,093 targets. Assumes nothing.
use Rattle.std.proofs.Common.{◌≡◌, ℕ, zero, suc, ◌+◌, ◌-◌, ◌*◌, ◌<◌, ◌≤◌, Bool, true, false, not, T, leb, refl, ap, zero-le, le_of_lt, mul-le-mul_right, arith, lit≤, leb→le}
use lib.Dec.{nleb→lt}
use lib.Ieee.{Float}
use Rattle.floats.proofs.At.{At, at_is, is_at, at_rnd, at_huge}
use Rattle.floats.proofs.Rounding.{rnd}
use Rattle.floats.proofs.Ranges.{Positive}
use Rattle.floats.proofs.Ticks.{tick, tick_pos}
use Rattle.parameter_interpolator.specs.Interpolator.{new_interpolator}
use Rattle.parameter_interpolator.proofs.Climb.{Rounds, rounds_any}
use Rattle.parameter_interpolator.proofs.Increment.{share, share_pos}
use Rattle.parameter_interpolator.proofs.Glide.{Way, step_of, share_of, glide_up, glide_down}

-- from a units to b, in n steps, of which this is the k-th
pub record Between (v t : Float) (a b n k : ℕ) : Type 0 where
  pub from : At v a
  pub to : At t b
  pub short : n ≤ 4096
  pub some : tick ≤ b
  pub ratio : a ≤ 4093 * b
  pub begun : 0 < k
  pub within : k ≤ n

many : 34359738368 ≤ tick
unfolding tick
many = lit≤ tt

module _ {v t : Float} {a b n k : ℕ} (g : Between v t a b n k) where
  some : 0 < n
  some = omega (arith, g.begun, g.within)

  large : 8388608 * n ≤ b
  large = go tick g.short many g.some
    where
      go : (t : ℕ) → n ≤ 4096 → 34359738368 ≤ t → t ≤ b → 8388608 * n ≤ b
      go t h k l = omega arith

  -- falling: what is lost by rounding is less than the target
  falls : b ≤ a → Positive (step_of k (new_interpolator v t n)) a
  falls h =
      let o = glide_down (is_at g.to) (is_at g.from) way k g.within in
      let e = ends o.u o.w o.rises o.past lost in
      record { n = o.w - o.u; at = at_is o.is e.0; some = e.1; most = e.2 }
    where
      lost : (n + 2) * a < 16777216 * b
      lost = go (mul-le-mul_right a g.short) tick_pos g.some g.ratio
        where
          go : {t : ℕ} → n * a ≤ 4096 * a → 0 < t → t ≤ b → a ≤ 4093 * b → (n + 2) * a < 16777216 * b
          go h p l r = omega arith

      way : Way a a a 0 a 0 b n
      way = record {
        rounds = rounds_any (at_rnd g.from) (at_huge g.from) (omega (arith, large, some));
        some = some;
        few = omega (arith, g.short);
        up = omega arith;
        far = record { held = at_rnd g.from; finite = at_huge g.from; some = omega (arith, large); most = omega arith };
        start = omega arith;
        target = omega (arith, lost);
      }

      ends : (u w : ℕ) → 0 + w ≤ u + a → 16777216 * (u + b) ≤ 16777216 * (0 + w) + (2 * a + n * a) → (n + 2) * a < 16777216 * b → (u ≤ w) × (0 < w - u) × (w - u ≤ a)
      ends u w r m l = omega arith

  -- rising, where the target keeps its distance from B
  rises : {M E B : ℕ} → Rounds M E → B ≤ M → a ≤ b → 16777216 * b + (2 * b + n * E) ≤ 16777216 * B → Positive (step_of k (new_interpolator v t n)) B
  rises {M} {E} {B} rounds i h l =
      let o = glide_up (is_at g.to) (is_at g.from) way k g.within in
      let e = ends o.u o.w (above a o.u o.w refl o.rises (o.first g.begun zero-le)) o.past in
      record { n = o.u - o.w; at = at_is o.is e.0; some = e.1; most = e.2 }
    where
      way : Way M E b a 0 b 0 n
      way = record {
        rounds = rounds;
        some = some;
        few = omega (arith, g.short);
        up = omega arith;
        far = record { held = at_rnd g.to; finite = at_huge g.to; some = large; most = omega arith };
        start = zero-le;
        target = omega arith;
      }

      -- from 0 the first step is the increment
      start : (D : ℕ) → D ≡ b → 0 < share n D
      start D e = share_pos n D some (omega (arith, ap (λ (k : ℕ). rnd k 1) e, at_rnd g.to, large))

      above : (a' u w : ℕ) → a ≡ a' → a + w ≤ u + 0 → share_of n a 0 b 0 + w ≤ u → w < u
      above zero u w e r f = omega (arith, start (b + 0 - (0 + a)) (omega arith))
      above (suc a') u w e r f = omega arith

      ends : (u w : ℕ) → w < u → 16777216 * (u + 0) ≤ 16777216 * (b + w) + (2 * b + n * E) → (w ≤ u) × (0 < u - w) × (u - w ≤ B)
      ends u w s m = omega arith

  -- above 0 and at most B, where the value is, and the target keeps its distance from B
  pub stays_above : {M E B : ℕ} → Rounds M E → B ≤ M → a ≤ B → 16777216 * b + (2 * b + 4096 * E) ≤ 16777216 * B → Positive (step_of k (new_interpolator v t n)) B
  stays_above {M} {E} {B} rounds i h l = go (leb a b) (leb→le a b) (nleb→lt a b)
    where
      fewer : n * E ≤ 4096 * E → 16777216 * b + (2 * b + n * E) ≤ 16777216 * B
      fewer j = omega arith

      go : (o : Bool) → (T o → a ≤ b) → (T (not o) → b < a) → Positive (step_of k (new_interpolator v t n)) B
      go true f _ = rises rounds i (f tt) (fewer (mul-le-mul_right E g.short))
      go false _ f = let r = falls (le_of_lt (f tt)) in record { n = r.n; at = r.at; some = r.some; most = omega (arith, r.most) }
