-- Segments: a whole part and the segment of a state, what crossing into a segment leaves as it is, and where a cycle ends. Assumes nothing.
use Rattle.std.proofs.Common.{◌≡◌, ℕ, ◌-◌, ◌*◌, ◌/◌, ◌^◌, ◌<◌, ◌≤◌, Bool, true, false, cond, eqb, leb, refl, ap, ◌∙◌, lt_of_lt_of_le, div-lt_iff_lt-mul, arith, lit≤, pow_pos, eq-eqb, eqb-true, le-leb, leb-true}
use lib.Ieee.{Float, ne}
use Rattle.floats.specs.F32.{◌⊕◌, zero32}
use Rattle.floats.proofs.Bools.{same_bool}
use Rattle.floats.proofs.At.{At}
use Rattle.floats.proofs.Ticks.{tick, cycle}
use Rattle.floats.proofs.PowerOfTwo.{whole_le}
use Rattle.whole_part.specs.WholePart.{whole_part, is_whole}
use Rattle.whole_part.proofs.Exact.{whole_part_at}
use Rattle.string_synth.specs.declared.State.{State}
use Rattle.string_synth.specs.declared.sample.Saws.{Saws}
use Rattle.string_synth.specs.declared.sample.Reached.{Reached}
use Rattle.string_synth.specs.Sample.{wrap_segment, blep_of, softened, stayed, entered, crossed, reached_of}

-- a step's end, from its parts
pub reach_is : (s : State) (saws : Saws) (whole : ℕ) (within : Bool) (r : Reached) → whole ≡ whole_part (s.phase ⊕ saws.frequency) → within ≡ is_whole whole s.segment
    → r ≡ cond within (stayed s (s.phase ⊕ saws.frequency) whole) (crossed s saws (s.phase ⊕ saws.frequency) whole) → r ≡ reached_of s saws
unfolding reached_of
reach_is s saws whole within r at-whole at-within at-r = rw (at-r, at-within, at-whole)

-- a fall changes only the samples
pub record Placed (e r : Reached) : Type 0 where
  pub phase : r.phase ≡ e.phase
  pub segment : r.segment ≡ e.segment
  pub cycles : r.cycles ≡ e.cycles
  pub rises : r.rises ≡ e.rises

softened_placed : (e : Reached) (discontinuity frequency : Float) → Placed e (softened e discontinuity frequency)
unfolding softened blep_of
softened_placed e d f = go (ne d zero32)
  where
    go : (b : Bool) → Placed e (cond b (blep_of e d f) e)
    go true = record { phase = refl; segment = refl; cycles = refl; rises = refl }
    go false = record { phase = refl; segment = refl; cycles = refl; rises = refl }

pub crossed_placed : (s : State) (saws : Saws) (phase : Float) (whole : ℕ) → Placed (entered s phase whole) (crossed s saws phase whole)
unfolding crossed
crossed_placed s saws phase whole = softened_placed (entered s phase whole) _ _

wrap_segment_small : (whole : ℕ) → whole ≤ 131072 → wrap_segment whole ≤ 131072
wrap_segment_small whole h = go (eqb whole 8)
  where
    go : (b : Bool) → cond b (whole - 8) whole ≤ 131072
    go true = omega arith
    go false = h

-- so that an i32 holds it
pub reached_small : (s : State) (saws : Saws) → (reached_of s saws).segment ≤ 131072
unfolding reached_of
reached_small s saws = go (is_whole whole s.segment)
  where
    phase : Float
    phase = s.phase ⊕ saws.frequency

    whole : ℕ
    whole = whole_part phase

    small : whole ≤ 131072
    small = omega arith

    go : (b : Bool) → (cond b (stayed s phase whole) (crossed s saws phase whole)).segment ≤ 131072
    go true = small
    go false = rw (crossed_placed s saws phase whole).segment (wrap_segment_small whole small)

-- what the whole part says of a phase of n units below 9: it is 8 exactly where the phase has come to 8
pub record Whole (n whole : ℕ) : Type 0 where
  pub most : whole ≤ 8
  pub eight : eqb whole 8 ≡ leb (8 * cycle) n

at_most : (w k : ℕ) → w ≡ k → k < 9 → w ≤ 8
at_most w k e h = omega arith

last : (k : ℕ) → k < 9 → eqb k 8 ≡ leb 8 k
last k h = same_bool (eqb k 8) (leb 8 k) (λ e. le-leb 8 k (omega (arith, eqb-true k 8 e))) (λ e. eq-eqb k 8 (omega (arith, leb-true 8 k e)))

pub whole_law : {x : Float} {n : ℕ} → At x n → n < 9 * cycle → Whole n (whole_part x)
unfolding tick
whole_law {x} {n} p h =
    let k = n / 2 ^ 149 in
    let top : k < 9 = (div-lt_iff_lt-mul (pow_pos 149)).1 h in
    let is : whole_part x ≡ k = whole_part_at p (lt_of_lt_of_le top (lit≤ tt)) in
    record { most = at_most (whole_part x) k is top; eight = ap (λ (i : ℕ). eqb i 8) is ∙ last k top ∙ whole_le 8 n }
