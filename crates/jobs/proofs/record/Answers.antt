-- `jobs::record` meets its contract: chunk k of 64 bytes is the part of the list that begins at byte 64 k. Assumes nothing.
use Rattle.std.specs.Simd.{first_chunks}
use Rattle.std.proofs.Common.{◌≡◌, ℕ, zero, suc, ◌*◌, ◌/◌, ◌%◌, ◌<◌, List, get_or, take, drop, length, sym, ◌∙◌, ap, arith, drop-drop}
use borrow.Author.Tests.{lt-ltb, eq-eqb, eqb-true, ltb-true}
use native.Mathlib.Nat.{suc-mul, zero-mul, add_comm}
use Rattle.jobs.proofs.«record».Goals as goal

chunk_at : (n count : ℕ) (xs : List ℕ) (k : ℕ) (d : List ℕ) → k < count → get_or (first_chunks n count xs) k d ≡ take n (drop (k * n) xs)
chunk_at n zero xs k d h = absurd (omega arith)
chunk_at n (suc count) xs zero d h = rw zero-mul
chunk_at n (suc count) xs (suc k) d h = chunk_at n count (drop n xs) k d (omega arith) ∙ rw (suc-mul, drop-drop, add_comm)

pub returns-in-Some : goal.returns-in-Some
returns-in-Some c =
    let list = c.args.list.now in
    let k = c.args.k in
    let inside : k < length list / 64 = rw c.as_chunks.ensures.front_len at (ltb-true _ _ (sym c.in-Some.ensures.lookup.0)) in
    let whole : length list % 64 ≡ 0 = sym c.as_chunks.ensures.back_len ∙ eqb-true _ 0 (sym c.if-is_empty.ensures) in
    let part = c.in-Some.ensures.lookup.1 ∙ ap (λ (chunks : List (List ℕ)). get_or chunks k c.in-Some.part.now) c.as_chunks.ensures.front ∙ chunk_at 64 (length list / 64) list k _ inside in
    rw (eq-eqb _ 0 whole, lt-ltb _ _ inside) part
