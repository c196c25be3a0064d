-- The three ways of a sample of the variable saw, from their parts: a rise, a wrap, or neither; and what is left of the last one, which counts nothing. Assumes nothing.
use mathlib.Core.Path.{◌≡◌}
use mathlib.Core.Bool.{true, false, not, ◌&&◌}
use borrow.Author.Tests.{not-true}
use lib.Ieee.{Float, le}
use Rattle.floats.specs.F32.{◌⊕◌, one32}
use Rattle.floats.proofs.Bools.{and_both}
use Rattle.block.specs.Counting.{no_counts}
use Rattle.block.specs.declared.sample.Sample.{Sample}
use Rattle.edges.specs.declared.Edge.{Edge}
use Rattle.variable_saw.specs.declared.State.{State}
use Rattle.variable_saw.specs.declared.sample.Wave.{Wave}
use Rattle.variable_saw.specs.Sample.{wave_of, rise_of, wrap_of, edge_of, finish, sample_of}

module _ (s : State) (frequency pw waveshape : Float) (w : Wave) (e : Edge) (r : Sample State) (at-w : w ≡ wave_of pw waveshape) (at-e : e ≡ edge_of s frequency) where
  pub sample_rises : (a : Edge) → (not e.high && le pw e.phase) ≡ true → a ≡ rise_of w frequency s.previous_pw e → r ≡ finish w frequency 0 a → r ≡ sample_of s frequency pw waveshape
  unfolding sample_of
  sample_rises a t at_a at-r = rw (at-r, at_a, at-w, at-e, rw at-e at t)

  module _ (t : (not e.high && le pw e.phase) ≡ false) where
    pub sample_wraps : (a : Edge) → le one32 e.phase ≡ true → a ≡ wrap_of w frequency e → r ≡ finish w frequency 1 a → r ≡ sample_of s frequency pw waveshape
    unfolding sample_of
    sample_wraps a o at_a at-r = rw (at-r, at_a, at-w, at-e, rw at-e at t, rw at-e at o)

    pub sample_stays : le one32 e.phase ≡ false → r ≡ finish w frequency 0 e → r ≡ sample_of s frequency pw waveshape
    unfolding sample_of
    sample_stays o at-r = rw (at-r, at-w, at-e, rw at-e at t, rw at-e at o)

-- a sample with neither, from the tests as one
module _ (s : State) (frequency pw waveshape : Float) (q : (not (not s.high && le pw (s.phase ⊕ frequency)) && not (le one32 (s.phase ⊕ frequency))) ≡ true) where
  pub sample_quiet : sample_of s frequency pw waveshape ≡ finish (wave_of pw waveshape) frequency 0 (edge_of s frequency)
  unfolding sample_of
  sample_quiet =
      let n = and_both _ _ q in
      rw (not-true (not s.high && le pw (s.phase ⊕ frequency)) n.0, not-true (le one32 (s.phase ⊕ frequency)) n.1)

  -- nothing is counted
  pub quiet_made : {t : Sample State} → t ≡ sample_of s frequency pw waveshape → ◌≡◌ {A = Sample State} (record { state = t.state; sample = t.sample; counts = no_counts }) (record { state = t.state; sample = t.sample; counts = t.counts })
  unfolding finish
  quiet_made e = rw (e, sample_quiet)
