-- What is true of every job list's sound: lists one after another sound one after another, a refused record could be left out, and how long it is.
-- Assumes nothing.
use mathlib.Core.Path.{◌≡◌, refl, sym, ap, ◌∙◌}
use mathlib.Core.Bool.{true}
use mathlib.Core.List.{List, [], ◌∷◌, ◌++◌, append_assoc}
use Prim.Native.Nat.{ℕ, ◌+◌, ◌*◌, ◌/◌, ◌%◌}
use native.Mathlib.Nat.{add-zero, div-add-mod', mul-div_cancel}
use native.Mathlib.Omega.{arith}
use lib.Dec.{lit<}
use lib.ListN.{length, length-append}
use lib.Ieee.{Float}
use Rattle.bank.specs.declared.Bank.{Bank}
use Rattle.bank.specs.Bank.{init_bank, record_played}
use Rattle.bank.proofs.Refused.{record_kept, record_silent}
use Rattle.render.specs.Lists.{records_from, bank_after}
use Rattle.stems.specs.Sound.{sound_of, left_by}
use Rattle.stems.specs.Compose.{given_rate, given_list, sound_in, has_stem, stem_for}
use Rattle.stems.proofs.Laying.{left_long}
use Rattle.stems.proofs.Followed.{records_both, both_long}
use Rattle.wave.proofs.Putting.{stem_long}

-- records after others sound after them, from the states that those leave
pub one_after_another : (b : Bank) (records others : List (List ℕ)) → sound_of b (records ++ others) ≡ sound_of b records ++ sound_of (bank_after b records) others
unfolding sound_of bank_after
one_after_another b [] others = refl
one_after_another b (p ∷ rest) others =
    ap (λ (xs : List Float). (record_played b p).samples ++ xs) (one_after_another (record_played b p).bank rest others)
    ∙ sym (append_assoc (record_played b p).samples (sound_of (record_played b p).bank rest) (sound_of (bank_after (record_played b p).bank rest) others))

-- so of the bytes of two lists
pub followed : (list other : List ℕ) → length list % 64 ≡ 0 → length other % 64 ≡ 0
    → sound_in (list ++ other) ≡ sound_in list ++ sound_of (bank_after init_bank (records_from list 0 (length list / 64))) (records_from other 0 (length other / 64))
followed list other h k =
    let n = length list / 64 in
    let m = length other / 64 in
    let l : length list ≡ n * 64 = sym (div-add-mod' (length list) 64) ∙ rw (h, add-zero (n * 64)) in
    let o : length other ≡ m * 64 = sym (div-add-mod' (length other) 64) ∙ rw (k, add-zero (m * 64)) in
    let both : length (list ++ other) / 64 ≡ n + m = ap (λ (j : ℕ). j / 64) (both_long list other n m l o) ∙ mul-div_cancel (n + m) {n = 64} (lit< tt) in
    ap (λ (j : ℕ). sound_of init_bank (records_from (list ++ other) 0 j)) both ∙ ap (sound_of init_bank) (records_both list other n m l o)
    ∙ one_after_another init_bank (records_from list 0 n) (records_from other 0 m)

-- a record p that is refused where it stands: with it and without it the list sounds the same
pub left_out : (b : Bank) (before : List (List ℕ)) (p : List ℕ) (after : List (List ℕ)) → ((record_played (bank_after b before) p).outcome.answer ≡ 0 → ⊥)
    → sound_of b (before ++ (p ∷ after)) ≡ sound_of b (before ++ after)
unfolding sound_of
left_out b before p after h =
    one_after_another b before (p ∷ after) ∙ rw (record_silent (bank_after b before) p h, record_kept (bank_after b before) p h) (sym (one_after_another b before after))

-- as many samples as the records answered Done say
pub sound_long : (b : Bank) (records : List (List ℕ)) → length (sound_of b records) ≡ left_by b records
unfolding sound_of left_by
sound_long b [] = refl
sound_long b (p ∷ rest) = simp length-append (omega (arith, left_long b p, sound_long (record_played b p).bank rest))

-- and the stem two bytes for each of them after its header
pub stem_left : (input : List ℕ) → has_stem input ≡ true → length (stem_for input) ≡ 44 + 2 * left_by init_bank (records_from (given_list input) 0 (length (given_list input) / 64))
unfolding stem_for
stem_left input h = rw h (stem_long (given_rate input) (sound_in (given_list input)) ∙ rw (sound_long init_bank (records_from (given_list input) 0 (length (given_list input) / 64))))
