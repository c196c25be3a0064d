-- A number of either sign to which the same c is added again and again, each sum rounded. It never falls, and after k sums it is off by at most k rounding errors.
-- A number that falls is the same one with its sign changed. Nothing here is about floats. Assumes nothing.
use Rattle.std.proofs.Common.{◌≡◌, ℕ, zero, suc, ◌+◌, ◌-◌, ◌*◌, ◌^◌, ◌<◌, ◌≤◌, Bool, true, false, not, T, leb, ◌⊎◌, sym, ap, ◌∙◌, subst, inl, inr, lt_of_le_of_lt, le_of_lt, zero-lt-suc, eq-or-lt_of_le, one-mul, arith, lit<, leb→le, pow-add}
use lib.Dec.{nleb→lt}
use Rattle.floats.proofs.At.{huge}
use Rattle.floats.proofs.Rounding.{Within, rnd, rnd_off, rnd_up, rnd_dn, rnd_exact, rnd_zero}
use Rattle.parameter_interpolator.proofs.Errors.{rnd_relative}

-- ---- how much a number of at most M is off when it is rounded: by E 16,777,216ths
pub record Rounds (M E : ℕ) : Type 0 where
  pub held : rnd M 1 ≡ M
  pub finite : M < huge
  pub off : (m : ℕ) → m ≤ M → Within (16777216 * rnd m 1) (16777216 * m) E

-- M itself will do for E
pub rounds_any : {M : ℕ} → rnd M 1 ≡ M → M < huge → 8388608 ≤ M → Rounds M M
rounds_any {M} e h l = record { held = e; finite = h; off = λ m k. one_times (rnd m 1) m (rnd_relative m 1 M (zero-lt-suc 0) k (omega arith)) }
  where
    one_times : (r n : ℕ) → Within (16777216 * (r * 1)) (16777216 * n) M → Within (16777216 * r) (16777216 * n) M
    one_times r n w = omega arith

-- up to a power of two it is half of the last digit's weight, t
pub rounds_power : {t : ℕ} (j : ℕ) → t ≡ 2 ^ j → 33554432 * t < huge → Rounds (33554432 * t) (16777216 * t)
rounds_power {t} j e h = record { held = held; finite = h; off = λ m l. off m (eq-or-lt_of_le l) }
  where
    power : 33554432 * t ≡ 2 ^ (25 + j)
    power = ap (λ (k : ℕ). 33554432 * k) e ∙ sym (pow-add 2 25 j)

    held : rnd (33554432 * t) 1 ≡ 33554432 * t
    held = subst (λ (x : ℕ). rnd x 1 ≡ x) (one-mul (2 ^ (25 + j)) ∙ sym power) (rnd_exact 1 (25 + j) (lit< tt))

    same : (r m : ℕ) → r ≡ m → Within (16777216 * r) (16777216 * m) (16777216 * t)
    same r m e = omega arith

    scaled : (r m E : ℕ) → E ≡ t → Within r m E → Within (16777216 * r) (16777216 * m) (16777216 * t)
    scaled r m E e w = omega arith

    off : (m : ℕ) → (m ≡ 33554432 * t) ⊎ (m < 33554432 * t) → Within (16777216 * rnd m 1) (16777216 * m) (16777216 * t)
    off m (inl i) = same (rnd m 1) m (ap (λ (x : ℕ). rnd x 1) i ∙ held ∙ sym i)
    off m (inr l) = scaled (rnd m 1) m (2 ^ j) (sym e) (rnd_off m j (subst (λ (x : ℕ). m < x) power l))

-- ---- one sum, u - w, rounded to U - W
-- p - q is a value that binary32 holds
pub record Held (p q : ℕ) : Type 0 where
  pub plus : rnd (p - q) 1 ≡ p - q
  pub minus : rnd (q - p) 1 ≡ q - p

pub no_rest : {P Q : ℕ} → P ≤ Q → rnd (P - Q) 1 ≡ 0
no_rest h = rnd_zero 1 (zero-lt-suc 0) (omega arith)

-- no smaller than p - q, where that is no smaller before rounding
no_less : {p q : ℕ} (P Q : ℕ) → Held p q → p + Q ≤ P + q → p + rnd (Q - P) 1 ≤ rnd (P - Q) 1 + q
no_less {p} {q} P Q f h =
    let a : p - q ≤ rnd (P - Q) 1 = rnd_dn f.plus (omega arith) in
    let b : rnd (Q - P) 1 ≤ q - p = rnd_up f.minus (omega arith) in
    omega (arith, a, b)

-- its error
sum_off : {M E : ℕ} (P Q : ℕ) → Rounds M E → P ≤ M + Q → Q ≤ M + P → Within (16777216 * (rnd (P - Q) 1 + Q)) (16777216 * (rnd (Q - P) 1 + P)) E
sum_off {M} {E} P Q rounds h k = go (leb Q P) (leb→le Q P) (nleb→lt Q P)
  where
    plus : (r z : ℕ) → Q ≤ P → z ≡ 0 → Within (16777216 * r) (16777216 * (P - Q)) E → Within (16777216 * (r + Q)) (16777216 * (z + P)) E
    plus r z l e w = omega arith

    minus : (r z : ℕ) → P < Q → z ≡ 0 → Within (16777216 * r) (16777216 * (Q - P)) E → Within (16777216 * (z + Q)) (16777216 * (r + P)) E
    minus r z l e w = omega arith

    go : (t : Bool) → (T t → Q ≤ P) → (T (not t) → P < Q) → Within (16777216 * (rnd (P - Q) 1 + Q)) (16777216 * (rnd (Q - P) 1 + P)) E
    go true a b = plus (rnd (P - Q) 1) (rnd (Q - P) 1) (a tt) (no_rest (a tt)) (rounds.off (P - Q) (omega arith))
    go false a b = minus (rnd (Q - P) 1) (rnd (P - Q) 1) (b tt) (no_rest (le_of_lt (b tt))) (rounds.off (Q - P) (omega arith))

-- ---- k sums of c from p - q. `Is k u w` stands for: the number after k sums is u - w
pub record Sums (Is : ℕ → ℕ → ℕ → Type 0) (p q c : ℕ) : Type 0 where
  pub start : Is 0 p q
  pub adds : rnd c 1 ≡ c
  pub held : (k u w : ℕ) → Is k u w → Held u w
  pub sum : (k u w : ℕ) → Is k u w → rnd (u + c - w) 1 < huge → rnd (w - (u + c)) 1 < huge → Is (suc k) (rnd (u + c - w) 1) (rnd (w - (u + c)) 1)

pub record Climbed (Is : ℕ → ℕ → ℕ → Type 0) (E p q c k : ℕ) : Type 0 where
  pub u : ℕ
  pub w : ℕ
  pub is : Is k u w
  pub rises : p + w ≤ u + q
  pub first : 0 < k → q ≤ p → c + w ≤ u
  pub near : Within (16777216 * (u + q)) (16777216 * (p + w + k * c)) (k * E)

-- and one sum more, which is no smaller
pub record Next (Is : ℕ → ℕ → ℕ → Type 0) (E c k u w : ℕ) : Type 0 where
  pub U : ℕ
  pub W : ℕ
  pub is : Is (suc k) U W
  pub rises : u + W ≤ U + w
  pub first : w ≤ u → c + W ≤ U
  pub near : Within (16777216 * (U + w)) (16777216 * (W + (u + c))) E

module _ {M E p q c : ℕ} {Is : ℕ → ℕ → ℕ → Type 0} (rounds : Rounds M E) (sums : Sums Is p q c) (l : q ≤ M + p) where
  -- each of k sums is at most M
  abbrev pub Stays : ℕ → Type 0
  Stays k = 16777216 * (p + k * c) + k * E ≤ 16777216 * (M + q)

  less : (k : ℕ) → Stays (suc k) → Stays k
  less k h = omega arith

  pub next : (k : ℕ) → Stays (suc k) → (r : Climbed Is E p q c k) → Next Is E c k r.u r.w
  next k h r =
      let u = r.u in
      let w = r.w in
      let top : u + c ≤ M + w = up u w r.near.0 in
      let low : w ≤ M + (u + c) = down u w r.rises in
      record {
        U = rnd (u + c - w) 1;
        W = rnd (w - (u + c)) 1;
        is = sums.sum k u w r.is (lt_of_le_of_lt (rnd_up rounds.held (omega arith)) rounds.finite) (lt_of_le_of_lt (rnd_up rounds.held (omega arith)) rounds.finite);
        rises = no_less (u + c) w (sums.held k u w r.is) (omega arith);
        first = λ g. start u w g;
        near = sum_off (u + c) w rounds top low;
      }
    where
      up : (u w : ℕ) → 16777216 * (u + q) ≤ 16777216 * (p + w + k * c) + k * E → u + c ≤ M + w
      up u w n = omega arith

      down : (u w : ℕ) → p + w ≤ u + q → w ≤ M + (u + c)
      down u w n = omega arith

      start : (u w : ℕ) → w ≤ u → c + rnd (w - (u + c)) 1 ≤ rnd (u + c - w) 1
      start u w g =
          let a : c ≤ rnd (u + c - w) 1 = rnd_dn sums.adds (omega arith) in
          let b : rnd (w - (u + c)) 1 ≡ 0 = no_rest (omega arith) in
          omega arith

  pub climb : (k : ℕ) → Stays k → Climbed Is E p q c k
  climb zero h = record { u = p; w = q; is = sums.start; rises = omega arith; first = λ z. absurd (omega arith); near = omega arith }
  climb (suc k) h =
      let r = climb k (less k h) in
      let s = next k h r in
      record {
        u = s.U;
        w = s.W;
        is = s.is;
        rises = through r.u r.w s.U s.W r.rises s.rises;
        first = λ _ g. s.first (omega (arith, r.rises));
        near = joined r.u r.w s.U s.W r.near s.near;
      }
    where
      through : (u w U W : ℕ) → p + w ≤ u + q → u + W ≤ U + w → p + W ≤ U + q
      through u w U W a b = omega arith

      joined : (u w U W : ℕ) → Within (16777216 * (u + q)) (16777216 * (p + w + k * c)) (k * E) → Within (16777216 * (U + w)) (16777216 * (W + (u + c))) E
          → Within (16777216 * (U + q)) (16777216 * (p + W + suc k * c)) (suc k * E)
      joined u w U W a b = omega arith
