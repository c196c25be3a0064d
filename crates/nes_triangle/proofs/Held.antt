-- A sample with neither a peak nor a new step: two tests of floats tell that the step is the state's, and little of the definition is left. Its step and that
-- step's level are held as floats. Assumes nothing.
use Rattle.std.proofs.Common.{◌≡◌, ℕ, ◌+◌, ◌^◌, ◌<◌, ◌≤◌, Bool, true, false, not, ◌&&◌, pos, nat_abs, refl, arith, eq-eqb}
use borrow.Author.Tests.{not-true}
use lib.Ieee.{Float, binary32, le, lt}
use lib.Ieee.Fits.{mul-fits}
use Rattle.floats.specs.F32.{◌⊕◌, ◌⊖◌, ◌⊗◌, zero32, half32, one32}
use Rattle.floats.proofs.Bools.{and_both}
use Rattle.whole_part.specs.WholePart.{whole_part, is_whole}
use Rattle.whole_part.proofs.Tested.{whole_part_between}
use Rattle.block.specs.Counting.{no_counts}
use Rattle.block.specs.declared.sample.Sample.{Sample}
use Rattle.nes_triangle.specs.declared.State.{State}
use Rattle.nes_triangle.specs.declared.depth.Depth.{Depth}
use Rattle.nes_triangle.specs.declared.quiet.Held.{Held}
use Rattle.nes_triangle.specs.Depth.{depth_of}
use Rattle.nes_triangle.specs.Sample.{stepped_of, gains_of, peak_of, edge_of, trough_of, sound_of, tri_level, finish, sample_of}
use Rattle.nes_triangle.specs.Private.{Below, Ready, Passed, Holds}
use Rattle.nes_triangle.proofs.Depths.{few_steps, top_most, top_few}

-- the step of a state that passed its tests is one that can be held
pub holdable : {bits : ℕ} {s : State} {d : Depth} → d ≡ depth_of bits → Passed bits s → Below s.step (d.top + 1) × (d.top < 65536)
unfolding depth_of
holdable {bits} {s} e p =
    let b = p.valid.step in
    rw e (record { n = b.n; is = b.is; under = omega (arith, top_most (2 ^ bits) b.n b.under) }, top_few bits p.bits_in.high)

-- the test of a quiet sample
abbrev pub quiet_of : Depth → State → Held → Float → Bool
quiet_of d s h frequency =
    let phase = s.phase ⊕ frequency in
    let x = phase ⊗ d.num_steps_f in
    le h.at x && lt x (h.at ⊕ one32) && not (s.ascending && le half32 phase)

tests : (a b c : Bool) → (a && b && not c) ≡ true → (a ≡ true) × (b ≡ true) × (c ≡ false)
tests a b c h =
    let t = and_both (a && b) (not c) h in
    let u = and_both a b t.0 in
    (u.0, u.1, not-true c t.1)

-- what has not peaked ascends as before
still : (a b : Bool) → (a && b) ≡ false → (a && not b) ≡ a
still true b h = rw h
still false b h = refl

module _ {d : Depth} {s : State} {h : Held} {frequency : Float} (r : Ready d s frequency) (at-h : Holds d s h) (q : quiet_of d s h frequency ≡ true) where
  few : nat_abs s.step ≤ 131071
  few = rw r.valid.step.is (omega (arith, r.valid.step.under, few_steps r.bits r.bits_in.high))

  passed : (le h.at ((s.phase ⊕ frequency) ⊗ d.num_steps_f) ≡ true) × (lt ((s.phase ⊕ frequency) ⊗ d.num_steps_f) (h.at ⊕ one32) ≡ true)
      × ((s.ascending && le half32 (s.phase ⊕ frequency)) ≡ false)
  passed = tests _ _ _ q

  whole_same : whole_part ((s.phase ⊕ frequency) ⊗ d.num_steps_f) ≡ nat_abs s.step
  whole_same = whole_part_between (nat_abs s.step) few _ (mul-fits binary32 _ _) (rw (← at-h.0) passed.0) (rw (← at-h.0) passed.1)

  on_step : is_whole (whole_part ((s.phase ⊕ frequency) ⊗ d.num_steps_f)) s.step ≡ true
  on_step = rw (whole_same, r.valid.step.is) (eq-eqb r.valid.step.n r.valid.step.n refl)

  same_step : pos (nat_abs s.step) ≡ s.step
  same_step = rw r.valid.step.is

  pub sample_quiet : sample_of d s frequency ≡ record {
    state = record {
      phase = s.phase ⊕ frequency;
      next_sample = zero32 ⊕ (gains_of d frequency).nes_gain ⊗ h.level ⊕ (gains_of d frequency).tri_gain ⊗ tri_level (s.phase ⊕ frequency);
      step = s.step;
      ascending = s.ascending;
      frequency = frequency;
    };
    sample = s.next_sample ⊗ d.scale ⊖ one32;
    counts = no_counts;
  }
  unfolding sample_of finish stepped_of sound_of peak_of edge_of trough_of
  sample_quiet = rw (on_step, whole_same, same_step, passed.2, still s.ascending (le half32 (s.phase ⊕ frequency)) passed.2, at-h.1)

  -- nothing is counted, and the same step is held
  pub quiet_made : {t : Sample State} → t ≡ sample_of d s frequency → ◌≡◌ {A = Sample State} (record { state = t.state; sample = t.sample; counts = no_counts }) (record { state = t.state; sample = t.sample; counts = t.counts })
  quiet_made e = rw (e, sample_quiet)

  pub quiet_holds : {t : Sample State} → t ≡ sample_of d s frequency → Holds d t.state h
  quiet_holds e = rw (e, sample_quiet) at-h
