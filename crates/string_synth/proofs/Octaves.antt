-- The halving loop of the string synth, in plain values. Assumes nothing.
use Rattle.std.proofs.Common.{◌≡◌, ℕ, zero, suc, ◌+◌, ◌*◌, ◌<◌, Bool, true, false, ◌&&◌, ltb, sym, refl, ◌∙◌, arith, ltb-false, ltb-true}
use lib.Ieee.{Float, lt}
use Rattle.floats.specs.F32.{◌⊗◌, half32}
use Rattle.floats.proofs.Bools.{and_both}
use Rattle.string_synth.specs.declared.targets.Octave.{Octave}
use Rattle.string_synth.specs.Targets.{halved, lowered}

abbrev pub octave : Float → ℕ → Octave
octave f shift = record { frequency = f; shift = shift }

-- so many turns may follow, and what they make is the whole
pub record Lowering (f₀ f : Float) (shift : ℕ) : Type 0 where
  pub more : ℕ
  pub turns : shift + 2 * more ≡ 8
  pub same : halved more (octave f shift) ≡ lowered f₀

pub lowering_start : (f : Float) → Lowering f f 0
lowering_start f = record { more = 4; turns = refl; same = refl }

pub stops : (k : ℕ) (o : Octave) → lt half32 o.frequency ≡ false → halved k o ≡ o
unfolding halved
stops zero o h = refl
stops (suc k) o h = rw h

pub lowering_below : (f : Float) (shift : ℕ) → (lt half32 f && ltb shift 8) ≡ true → shift < 8
lowering_below f shift h = ltb-true shift 8 (and_both (lt half32 f) (ltb shift 8) h).1

module _ (f₀ f : Float) (shift : ℕ) where
  pub lowering_end : Lowering f₀ f shift → (lt half32 f && ltb shift 8) ≡ false → octave f shift ≡ lowered f₀
  unfolding halved
  lowering_end p h = go (lt half32 f) refl h
    where
      go : (b : Bool) → lt half32 f ≡ b → (b && ltb shift 8) ≡ false → octave f shift ≡ lowered f₀
      go false e h = sym (stops p.more (octave f shift) e) ∙ p.same
      go true e h = last p.more p.turns p.same
        where
          last : (k : ℕ) → shift + 2 * k ≡ 8 → halved k (octave f shift) ≡ lowered f₀ → octave f shift ≡ lowered f₀
          last zero t s = s
          last (suc k) t s = absurd (omega (arith, ltb-false shift 8 h))

  pub lowering_more : Lowering f₀ f shift → (lt half32 f && ltb shift 8) ≡ true → Lowering f₀ (f ⊗ half32) (shift + 2)
  unfolding halved
  lowering_more p h = go (and_both (lt half32 f) (ltb shift 8) h).0 (lowering_below f shift h) p.more p.turns p.same
    where
      go : lt half32 f ≡ true → shift < 8 → (k : ℕ) → shift + 2 * k ≡ 8 → halved k (octave f shift) ≡ lowered f₀ → Lowering f₀ (f ⊗ half32) (shift + 2)
      go a l zero t s = absurd (omega arith)
      go a l (suc k) t s = record { more = k; turns = omega arith; same = (rw a at s) }
