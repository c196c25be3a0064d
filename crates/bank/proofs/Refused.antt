-- A refused record changes no state and no sample. Assumes nothing.
use mathlib.Core.Path.{◌≡◌, refl, ap, ◌∙◌}
use mathlib.Core.Bool.{Bool, true, false, cond}
use mathlib.Core.List.{List, [], ◌++◌}
use Prim.Native.Nat.{ℕ}
use borrow.Author.Tests.{ne_eqb}
use lib.Dec.{leb}
use lib.ListN.{length, drop}
use lib.Ieee.{Float}
use Rattle.block.specs.Oscillator.{call_of}
use Rattle.block.proofs.Oscillators.{refused_state}
use Rattle.bank.specs.declared.Bank.{Bank}
use Rattle.bank.specs.Bank.{Made, record_played}
use Rattle.bank.specs.Lent.{Handed, no_room, handed, play_of}
use Rattle.bank.proofs.EachKind.{by_record}

-- 01: "A refused record changes nothing": no state
pub record_kept : (b : Bank) (p : List ℕ) → ((record_played b p).outcome.answer ≡ 0 → ⊥) → (record_played b p).bank ≡ b
record_kept b p = by_record b p (λ (m : Made). (m.outcome.answer ≡ 0 → ⊥) → m.bank ≡ b) (λ h. refl) (λ S A o s put a same long h. ap put (refused_state o s a h) ∙ same)

-- it has no samples
pub record_silent : (b : Bank) (p : List ℕ) → ((record_played b p).outcome.answer ≡ 0 → ⊥) → (record_played b p).samples ≡ []
record_silent b p = by_record b p (λ (m : Made). (m.outcome.answer ≡ 0 → ⊥) → m.samples ≡ []) (λ h. refl) (λ S A o s put a same long h. rw (ne_eqb (call_of o s a).number 0 h))

-- and so the lent buffer stays too, with every number but 0, that for want of room among them
pub play_kept : (b : Bank) (p : List ℕ) (d : List Float) → ((play_of b p d).outcome.answer ≡ 0 → ⊥) → ((play_of b p d).bank ≡ b) × ((play_of b p d).buffer ≡ d)
unfolding handed
play_kept b p d = go (leb (length (record_played b p).samples) (length d))
  where
    given : Bool → Handed
    given t =
        cond t
        (record { bank = (record_played b p).bank; outcome = (record_played b p).outcome; buffer = (record_played b p).samples ++ drop (length (record_played b p).samples) d })
        (no_room b d)

    go : (t : Bool) → ((given t).outcome.answer ≡ 0 → ⊥) → ((given t).bank ≡ b) × ((given t).buffer ≡ d)
    go true h = (record_kept b p h, rw (record_silent b p h))
    go false h = (refl, refl)
