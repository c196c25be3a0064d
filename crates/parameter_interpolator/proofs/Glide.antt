-- A glide: the source's interpolator from a value to a target of either sign, in n steps. Each step goes towards the target or stays, none passes it by more than `slack` 16,777,216ths
-- of a unit, and after n steps it is no farther from it. Assumes nothing.
use Rattle.std.proofs.Common.{◌≡◌, ℕ, zero, suc, ◌+◌, ◌-◌, ◌*◌, ◌^◌, ◌<◌, ◌≤◌, Bool, true, false, not, T, leb, sym, ap, ◌∙◌, add-zero, le_of_lt, mul-le-mul_right, arith, leb→le, le-leb}
use native.Mathlib.Nat.{sub-zero}
use lib.Dec.{nleb→lt}
use lib.Ieee.{Float, le}
use Rattle.floats.specs.F32.{◌⊕◌}
use Rattle.floats.proofs.Signed.{Is, neg_is, add_is, le_is}
use Rattle.floats.proofs.At.{huge, at_is, at_rnd}
use Rattle.floats.proofs.Rounding.{Within, rnd}
use Rattle.parameter_interpolator.specs.declared.ParameterInterpolator.{ParameterInterpolator}
use Rattle.parameter_interpolator.specs.Interpolator.{new_interpolator}
use Rattle.parameter_interpolator.proofs.Climb.{Rounds, Held, Sums, Stays, Climbed, climb, next, no_rest}
use Rattle.parameter_interpolator.proofs.Increment.{share, Far, share_near, increment_up, increment_down}

-- the k-th step: the value with the increment added k times
abbrev pub step_of : ℕ → ParameterInterpolator → Float
step_of zero p = p.value
step_of (suc k) p = step_of k p ⊕ p.increment

-- ---- on numbers: from p - q up to r - s in n steps, where no number on the way is below -M or above M
pub record Way (M E F p q r s n : ℕ) : Type 0 where
  pub rounds : Rounds M E
  pub some : 0 < n
  pub few : n ≤ 2 ^ 24
  pub up : s + p ≤ r + q
  pub far : Far n F (r + q - (s + p))
  pub start : q ≤ M + p
  pub target : 16777216 * r + (2 * F + n * E) ≤ 16777216 * (M + s)

abbrev pub share_of : ℕ → ℕ → ℕ → ℕ → ℕ → ℕ
share_of n p q r s = share n (r + q - (s + p))

-- after k of the steps it is u - w, and `Is u w` says so
pub record Glided (Is : ℕ → ℕ → Type 0) (p q r s slack n k : ℕ) : Type 0 where
  pub u : ℕ
  pub w : ℕ
  pub is : Is u w
  pub rises : p + w ≤ u + q
  pub first : 0 < k → q ≤ p → share_of n p q r s + w ≤ u
  pub past : 16777216 * (u + s) ≤ 16777216 * (r + w) + slack
  pub ends : k ≡ n → 16777216 * (r + w) ≤ 16777216 * (u + s) + slack

-- one step on it is U - W, and no less
pub record Onward (Is : ℕ → ℕ → ℕ → Type 0) (k : ℕ) : Type 0 where
  pub u : ℕ
  pub w : ℕ
  pub U : ℕ
  pub W : ℕ
  pub is : Is k u w
  pub next : Is (suc k) U W
  pub rises : u + W ≤ U + w

module _ {M E F p q r s n : ℕ} {Is : ℕ → ℕ → ℕ → Type 0} (way : Way M E F p q r s n) (sums : Sums Is p q (share_of n p q r s)) where
  near : Within (16777216 * (n * share_of n p q r s)) (16777216 * (r + q - (s + p))) (2 * F)
  near = share_near way.some way.far

  stays : (k : ℕ) → k ≤ n → Stays way.rounds sums way.start k
  stays k K = go (share_of n p q r s) way.up way.target (mul-le-mul_right (share_of n p q r s) K) (mul-le-mul_right E K) near
    where
      go : (c : ℕ) → s + p ≤ r + q → 16777216 * r + (2 * F + n * E) ≤ 16777216 * (M + s) → k * c ≤ n * c → k * E ≤ n * E → Within (16777216 * (n * c)) (16777216 * (r + q - (s + p))) (2 * F)
          → 16777216 * (p + k * c) + k * E ≤ 16777216 * (M + q)
      go c h t a b w = omega arith

  climbed : (k : ℕ) → k ≤ n → Climbed Is E p q (share_of n p q r s) k
  climbed k K = climb way.rounds sums way.start k (stays k K)

  pub glided : (k : ℕ) → k ≤ n → Glided (Is k) p q r s (2 * F + n * E) n k
  glided k K =
      let c = share_of n p q r s in
      let o = climbed k K in
      record {
        u = o.u;
        w = o.w;
        is = o.is;
        rises = o.rises;
        first = o.first;
        past = past c o.u o.w way.up (mul-le-mul_right c K) (mul-le-mul_right E K) near o.near.0;
        ends = λ e. ends c o.u o.w way.up (ap (λ (i : ℕ). i * c) e) (ap (λ (i : ℕ). i * E) e) near o.near.1;
      }
    where
      past : (c u w : ℕ) → s + p ≤ r + q → k * c ≤ n * c → k * E ≤ n * E → Within (16777216 * (n * c)) (16777216 * (r + q - (s + p))) (2 * F)
          → 16777216 * (u + q) ≤ 16777216 * (p + w + k * c) + k * E → 16777216 * (u + s) ≤ 16777216 * (r + w) + (2 * F + n * E)
      past c u w h a b d e = omega arith

      ends : (c u w : ℕ) → s + p ≤ r + q → k * c ≡ n * c → k * E ≡ n * E → Within (16777216 * (n * c)) (16777216 * (r + q - (s + p))) (2 * F)
          → 16777216 * (p + w + k * c) ≤ 16777216 * (u + q) + k * E → 16777216 * (r + w) ≤ 16777216 * (u + s) + (2 * F + n * E)
      ends c u w h a b d e = omega arith

  pub onward : (k : ℕ) → k < n → Onward Is k
  onward k K =
      let o = climbed k (le_of_lt K) in
      let i = next way.rounds sums way.start k (stays (suc k) K) o in
      record { u = o.u; w = o.w; U = i.U; W = i.W; is = o.is; next = i.is; rises = i.rises }

-- ---- the interpolator's steps
-- a value of binary32 stays as it is
is_held : {x : Float} {p q : ℕ} → Is x p q → Held p q
is_held {x} {p} {q} X = go (leb q p) (leb→le q p) (nleb→lt q p)
  where
    none : (a b : ℕ) → a ≤ b → a - b ≡ 0
    none a b h = omega arith

    go : (t : Bool) → (T t → q ≤ p) → (T (not t) → p < q) → Held p q
    go true f g = record { plus = at_rnd (at_is X (f tt)); minus = no_rest (f tt) ∙ sym (none q p (f tt)) }
    go false f g = let l = le_of_lt (g tt) in record { plus = no_rest l ∙ sym (none p q l); minus = at_rnd (at_is (neg_is X) l) }

add_up : {x i : Float} {u w c : ℕ} → Is i c 0 → Is x u w → rnd (u + c - w) 1 < huge → rnd (w - (u + c)) 1 < huge → Is (x ⊕ i) (rnd (u + c - w) 1) (rnd (w - (u + c)) 1)
add_up I X = simp add-zero at (add_is X I)

add_down : {x i : Float} {u w c : ℕ} → Is i 0 c → Is x w u → rnd (u + c - w) 1 < huge → rnd (w - (u + c)) 1 < huge → Is (x ⊕ i) (rnd (w - (u + c)) 1) (rnd (u + c - w) 1)
add_down I X h k = (simp add-zero at (add_is X I)) k h

module _ {v t : Float} {M E F p q r s n : ℕ} (R : Is t r s) (P : Is v p q) where
  -- a target that is no less
  module _ (way : Way M E F p q r s n) where
    sums_up : Sums (λ k u w. Is (step_of k (new_interpolator v t n)) u w) p q (share_of n p q r s)
    sums_up =
        let I = increment_up way.some way.few R P way.up way.far in
        record { start = P; adds = simp sub-zero at (is_held I).plus; held = λ k u w X. is_held X; sum = λ k u w X. add_up I X }

    pub glide_up : (k : ℕ) → k ≤ n → Glided (λ u w. Is (step_of k (new_interpolator v t n)) u w) p q r s (2 * F + n * E) n k
    glide_up k K = glided way sums_up k K

    pub monotone_up : (k : ℕ) → k < n → le (step_of k (new_interpolator v t n)) (step_of (suc k) (new_interpolator v t n)) ≡ true
    monotone_up k K = let o = onward way sums_up k K in le_is o.is o.next ∙ le-leb (o.u + o.W) (o.U + o.w) o.rises

  -- a target that is no more: the same with the sign changed
  module _ (way : Way M E F q p s r n) where
    sums_down : Sums (λ k u w. Is (step_of k (new_interpolator v t n)) w u) q p (share_of n q p s r)
    sums_down =
        let I = increment_down way.some way.few R P way.up way.far in
        record { start = P; adds = simp sub-zero at (is_held I).minus; held = λ k u w X. let h = is_held X in record { plus = h.minus; minus = h.plus }; sum = λ k u w X. add_down I X }

    pub glide_down : (k : ℕ) → k ≤ n → Glided (λ u w. Is (step_of k (new_interpolator v t n)) w u) q p s r (2 * F + n * E) n k
    glide_down k K = glided way sums_down k K

    pub monotone_down : (k : ℕ) → k < n → le (step_of (suc k) (new_interpolator v t n)) (step_of k (new_interpolator v t n)) ≡ true
    monotone_down k K = let o = onward way sums_down k K in le_is o.next o.is ∙ le-leb (o.W + o.u) (o.w + o.U) (omega (arith, o.rises))
