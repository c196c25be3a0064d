-- The bytes of one job list after those of another: the records are those of the one, and then those of the other. Assumes nothing.
use mathlib.Core.Path.{◌≡◌, refl, sym, ◌∙◌}
use mathlib.Core.List.{List, ◌++◌}
use Prim.Native.Nat.{ℕ, zero, suc, ◌+◌, ◌*◌, ◌≤◌, ◌<◌}
use native.Mathlib.Nat.{mul-mod_left, mul-div_cancel, add-zero, zero-add, add-suc, suc-add}
use native.Mathlib.Omega.{arith}
use borrow.Author.Tests.{lt-ltb}
use lib.Dec.{lit<}
use lib.ListN.{length, take, drop, length-append, length-drop}
use lib.Seq.{take-append-le, drop-append-le, drop-append-add}
use Rattle.jobs.specs.Words.{record_of}
use Rattle.render.specs.Lists.{records_from}

-- record k of n
record_at : (list : List ℕ) (n k : ℕ) → length list ≡ n * 64 → k < n → record_of list k ≡ take 64 (drop (k * 64) list)
record_at list n k l h = rw (l, mul-mod_left n 64, mul-div_cancel n {n = 64} (lit< tt), lt-ltb k n h)

split : (list : List ℕ) (k i j : ℕ) → records_from list k (i + j) ≡ records_from list k i ++ records_from list (k + i) j
unfolding records_from
split list k zero j = rw (zero-add j, add-zero k)
split list k (suc i) j = rw (suc-add i j, split list (suc k) i j, suc-add k i, add-suc k i)

module _ (list other : List ℕ) (n m : ℕ) (l : length list ≡ n * 64) (o : length other ≡ m * 64) where
  pub both_long : length (list ++ other) ≡ (n + m) * 64
  both_long = simp length-append (omega arith)

  in_first : (k : ℕ) → k < n → record_of (list ++ other) k ≡ record_of list k
  in_first k h =
      record_at (list ++ other) (n + m) k both_long (omega arith)
      ∙ rw (drop-append-le (k * 64) list other (omega arith), take-append-le 64 (drop (k * 64) list) other (simp length-drop (omega arith))) (sym (record_at list n k l h))

  in_second : (k : ℕ) → k < m → record_of (list ++ other) (n + k) ≡ record_of other k
  in_second k h =
      let at : (n + k) * 64 ≡ length list + k * 64 = omega arith in
      record_at (list ++ other) (n + m) (n + k) both_long (omega arith) ∙ rw (at, drop-append-add list other (k * 64)) (sym (record_at other m k o h))

  from_first : (j k : ℕ) → k + j ≤ n → records_from (list ++ other) k j ≡ records_from list k j
  unfolding records_from
  from_first zero k h = refl
  from_first (suc j) k h = rw (in_first k (omega arith), from_first j (suc k) (omega arith))

  from_second : (j k : ℕ) → k + j ≤ m → records_from (list ++ other) (n + k) j ≡ records_from other k j
  unfolding records_from
  from_second zero k h = refl
  from_second (suc j) k h = rw (in_second k (omega arith), ← add-suc n k, from_second j (suc k) (omega arith))

  pub records_both : records_from (list ++ other) 0 (n + m) ≡ records_from list 0 n ++ records_from other 0 m
  records_both =
      let at : 0 + n ≡ n + 0 = omega arith in
      let second : records_from (list ++ other) (0 + n) m ≡ records_from other 0 m = rw at (from_second m 0 (omega arith)) in
      split (list ++ other) 0 n m ∙ rw (second, from_first n 0 (omega arith))
