-- A larger sample has no smaller number. Assumes nothing.
use mathlib.Core.Path.{◌≡◌, refl, sym, ap, ◌∙◌}
use mathlib.Core.Bool.{Bool, true, false, cond, true≢false}
use Prim.Native.Nat.{ℕ, zero, suc, ◌+◌, ◌*◌, ◌/◌, ◌^◌, ◌≤◌, min}
use native.Mathlib.Nat.{mul-div_cancel, mul-le-mul_right, min-le_right, add-zero}
use native.Mathlib.Omega.{arith}
use borrow.Author.Tests.{leb-true}
use lib.Dec.{T, leb→le, le→leb}
use lib.Pow.{pow_pos}
use lib.IntN.{ℤ, pos, negsuc, neg_ℤ}
use lib.Signed.{◌≤ℤ◌, le_z_yes, ≤ℤ_refl}
use lib.Ieee.{Float, nan, inf, fin, binary32, down, fits, le}
use lib.Ieee.Fits.{down_pos}
use Rattle.floats.specs.Units.{units}
use Rattle.floats.proofs.Held.{held}
use Rattle.floats.proofs.Values.{Split}
use Rattle.floats.proofs.Signed.{Is, le_is}
use Rattle.wave.specs.Pcm.{one, clipped, value_of, rounded, nearest_of, pcm_of}
use Rattle.wave.proofs.Rounded.{rounded_mono}

-- ---- over integers
neg_le_pos : (a b : ℕ) → neg_ℤ (pos a) ≤ℤ pos b
neg_le_pos zero b = le_z_yes (le→leb 0 b (omega arith))
neg_le_pos (suc a) b = le_z_yes tt

neg_le_neg : (a b : ℕ) → b ≤ a → neg_ℤ (pos a) ≤ℤ neg_ℤ (pos b)
neg_le_neg a zero h = neg_le_pos a 0
neg_le_neg zero (suc b) h = absurd (omega arith)
neg_le_neg (suc a) (suc b) h = le_z_yes (le→leb b a (omega arith))

-- what grows with the size keeps the order
module _ (g : ℕ → ℕ) (grows : (a b : ℕ) → a ≤ b → g a ≤ g b) (f : ℤ → ℤ) (f-pos : (n : ℕ) → f (pos n) ≡ pos (g n)) (f-neg : (n : ℕ) → f (negsuc n) ≡ neg_ℤ (pos (g (suc n)))) where
  keeps : (z w : ℤ) → z ≤ℤ w → f z ≤ℤ f w
  keeps (pos a) (pos b) h = rw (f-pos a, f-pos b) (le_z_yes (le→leb (g a) (g b) (grows a b (leb→le a b h.le))))
  keeps (pos a) (negsuc b) h = absurd h.le
  keeps (negsuc a) (pos b) h = rw (f-neg a, f-pos b) (neg_le_pos (g (suc a)) (g b))
  keeps (negsuc a) (negsuc b) h = rw (f-neg a, f-neg b) (neg_le_neg (g (suc a)) (g (suc b)) (grows (suc b) (suc a) (omega (arith, leb→le b a h.le))))

clipped_mono : (z w : ℤ) → z ≤ℤ w → clipped z ≤ℤ clipped w
clipped_mono = keeps (λ n. min n one) (λ a b h. least a b one h) clipped (λ n. refl) (λ n. refl)
  where
    least : (a b u : ℕ) → a ≤ b → min a u ≤ min b u
    least a b u h = omega arith

nearest_mono : (z w : ℤ) → z ≤ℤ w → nearest_of z ≤ℤ nearest_of w
unfolding nearest_of
nearest_mono =
    keeps (λ n. rounded (n * 32767) one)
    (λ a b h. rounded_mono (a * 32767) one (b * 32767) one (pow_pos 149) (pow_pos 149) (mul-le-mul_right one (mul-le-mul_right 32767 h))) nearest_of (λ n. refl) (λ n. refl)

-- ---- over samples
record Sized (s : Bool) (m : ℕ) (e : ℤ) : Type 0 where
  n : ℕ
  is : Is (fin s m e) (cond s 0 n) (cond s n 0)
  same : units (fin s m e) ≡ cond s (neg_ℤ (pos n)) (pos n)

sized : (s : Bool) (m : ℕ) (e : ℤ) → T (fits binary32 (fin s m e)) → Sized s m e
unfolding units
sized s m e t =
    let h = held s m e t in
    let n = m * 2 ^ h.j in
    record {
      n = n;
      is = record { fit = t; value = record { n = n; size = h.size; split = split s n } };
      same = ap (λ (k : ℕ). cond s (neg_ℤ (pos k)) (pos k)) (ap (λ (k : ℕ). k / down e) h.size ∙ mul-div_cancel n (down_pos e));
    }
  where
    split : (s : Bool) (n : ℕ) → Split s n (cond s 0 n) (cond s n 0)
    split false n = add-zero n
    split true n = add-zero n

units_mono : (s : Bool) (m : ℕ) (e : ℤ) (u : Bool) (n : ℕ) (d : ℤ) → T (fits binary32 (fin s m e)) → T (fits binary32 (fin u n d)) → le (fin s m e) (fin u n d) ≡ true → units (fin s m e) ≤ℤ units (fin u n d)
units_mono s m e u n d t v h =
    let a = sized s m e t in
    let b = sized u n d v in
    rw (a.same, b.same) (go s u a.n b.n (leb-true _ _ (sym (le_is a.is b.is) ∙ h)))
  where
    go : (s u : Bool) (a b : ℕ) → cond s 0 a + cond u b 0 ≤ cond u 0 b + cond s a 0 → cond s (neg_ℤ (pos a)) (pos a) ≤ℤ cond u (neg_ℤ (pos b)) (pos b)
    go true true a b h = neg_le_neg a b (omega arith)
    go true false a b h = neg_le_pos a b
    go false true a b h = none a b (omega arith) (omega arith)
      where
        none : (a b : ℕ) → a ≡ 0 → b ≡ 0 → pos a ≤ℤ neg_ℤ (pos b)
        none a b p q = rw (p, q) (le_z_yes tt)
    go false false a b h = le_z_yes (le→leb a b (omega arith))

-- an infinity is clipped to the ends
least_value : (z : ℤ) → neg_ℤ (pos one) ≤ℤ clipped z
least_value (pos n) = neg_le_pos one (min n one)
least_value (negsuc n) = neg_le_neg one (min (suc n) one) (min-le_right (suc n) one)

most_value : (z : ℤ) → clipped z ≤ℤ pos one
most_value (pos n) = le_z_yes (le→leb (min n one) one (min-le_right n one))
most_value (negsuc n) = neg_le_pos (min (suc n) one) one

value_mono : (x y : Float) → T (fits binary32 x) → T (fits binary32 y) → le x y ≡ true → value_of x ≤ℤ value_of y
unfolding value_of le
value_mono nan y t v h = absurd (true≢false (sym h))
value_mono (inf s) nan t v h = absurd (true≢false (sym h))
value_mono (inf true) (inf true) t v h = ≤ℤ_refl (neg_ℤ (pos one))
value_mono (inf true) (inf false) t v h = le_z_yes tt
value_mono (inf false) (inf true) t v h = absurd (true≢false (sym h))
value_mono (inf false) (inf false) t v h = ≤ℤ_refl (pos one)
value_mono (inf true) (fin u n d) t v h = least_value (units (fin u n d))
value_mono (inf false) (fin u n d) t v h = absurd (true≢false (sym h))
value_mono (fin s m e) nan t v h = absurd (true≢false (sym h))
value_mono (fin s m e) (inf true) t v h = absurd (true≢false (sym h))
value_mono (fin s m e) (inf false) t v h = most_value (units (fin s m e))
value_mono (fin s m e) (fin u n d) t v h = clipped_mono (units (fin s m e)) (units (fin u n d)) (units_mono s m e u n d t v h)

-- 02 (ii)'s numbers keep the order of their samples
pub pcm_mono : (x y : Float) → T (fits binary32 x) → T (fits binary32 y) → le x y ≡ true → pcm_of x ≤ℤ pcm_of y
unfolding pcm_of
pcm_mono x y t v h = nearest_mono (value_of x) (value_of y) (value_mono x y t v h)
