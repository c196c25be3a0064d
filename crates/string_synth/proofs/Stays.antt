-- A sample whose phase stays in the state's segment, told by two tests on the segment's start. Assumes nothing.
use Rattle.std.proofs.Common.{◌≡◌, ℕ, ◌<◌, ◌≤◌, true, ◌&&◌, T, ℤ, pos, nat_abs, refl, ◌∙◌, lt_of_le_of_lt, mod-eq_of_lt, arith, lit<, w32, Fits, to_z, of_z, eq-eqb}
use lib.Bits.{bit_and, and_mask}
use lib.Signed.{non_neg}
use mir.ValLaws.{to_z_pos}
use lib.Ieee.{Float, binary32, le, lt}
use lib.Ieee.Fits.{add-fits}
use Rattle.floats.specs.F32.{◌⊕◌, one32}
use Rattle.floats.proofs.Bools.{and_both}
use Rattle.whole_part.specs.WholePart.{whole_part}
use Rattle.whole_part.proofs.Tested.{whole_part_between}
use Rattle.block.specs.Counting.{no_counts}
use Rattle.block.specs.declared.sample.Sample.{Sample}
use Rattle.string_synth.specs.declared.State.{State}
use Rattle.string_synth.specs.declared.sample.Saws.{Saws}
use Rattle.string_synth.specs.declared.sample.Starts.{Starts}
use Rattle.string_synth.specs.Sample.{stayed, reached_of, finish, sample_of}
use Rattle.string_synth.specs.Private.{Valid, starts_of}

-- a whole part in an i32 is the number that its bits are
module _ {z : ℤ} {k : ℕ} (e : z ≡ pos k) (few : k ≤ 131072) where
  pub held_segment : nat_abs (to_z w32 (of_z w32 z)) ≡ nat_abs z
  held_segment = rw (e, to_z_pos w32 k (lt_of_le_of_lt few (lit< tt)))

  pub cast_segment : T (non_neg (to_z w32 (of_z w32 z))) × Fits w32 (nat_abs (to_z w32 (of_z w32 z)))
  cast_segment = rw (e, to_z_pos w32 k (lt_of_le_of_lt few (lit< tt))) (tt, record { fits = lt_of_le_of_lt few (lit< tt) })

-- one of the eight has no more than three digits
three_digits : (k : ℕ) → k < 8 → bit_and k 7 ≡ k
three_digits k h = and_mask k 3 ∙ mod-eq_of_lt h

module _ (s : State) (starts : Starts) (saws : Saws) (v : Valid s) (at-starts : starts ≡ starts_of (nat_abs s.segment))
    (q : (le starts.saw_1 (s.phase ⊕ saws.frequency) && lt (s.phase ⊕ saws.frequency) (starts.saw_1 ⊕ one32)) ≡ true) where
  whole_is : whole_part (s.phase ⊕ saws.frequency) ≡ v.k
  whole_is =
      let n = and_both _ _ (rw (at-starts, v.segment, three_digits v.k v.below) at q) in
      whole_part_between v.k (omega (arith, v.below)) (s.phase ⊕ saws.frequency) (add-fits binary32 _ _) n.0 n.1

  pub reach_quiet : reached_of s saws ≡ stayed s (s.phase ⊕ saws.frequency) (nat_abs s.segment)
  unfolding reached_of
  reach_quiet = rw (whole_is, v.segment, eq-eqb v.k v.k refl)

  module _ (held : Float) {t : Sample State} (at-t : t ≡ sample_of s saws held) where
    -- nothing is counted
    pub quiet_made : ◌≡◌ {A = Sample State} (record { state = t.state; sample = t.sample; counts = no_counts }) (record { state = t.state; sample = t.sample; counts = t.counts })
    unfolding sample_of finish
    quiet_made = rw (at-t, reach_quiet)

    -- and the starts are still those of the segment
    pub quiet_starts : starts ≡ starts_of (nat_abs t.state.segment)
    unfolding sample_of finish
    quiet_starts = rw (at-t, reach_quiet) at-starts

-- the segment that any sample leaves
pub sampled_segment : (s : State) (saws : Saws) (held : Float) {t : Sample State} → t ≡ sample_of s saws held → t.state.segment ≡ pos (reached_of s saws).segment
unfolding sample_of finish
sampled_segment s saws held at-t = rw at-t refl
