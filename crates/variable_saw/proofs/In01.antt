-- The variable saw as 01 had it, before 02 (iii). It has no sync, so that nothing is late, and a call is what it was. Assumes nothing.
use mathlib.Core.Path.{◌≡◌, refl}
use mathlib.Core.Bool.{Bool, true, false, not, ◌&&◌, cond}
use mathlib.Core.List.{List}
use lib.ListN.{get_or}
use lib.Ieee.{Float, le}
use Rattle.floats.specs.F32.{◌⊕◌, ◌⊖◌, ◌⊗◌, ◌⊘◌, zero32, one32}
use Rattle.polyblep.specs.Polyblep.{this_blep_sample, next_blep_sample, this_integrated_blep_sample, next_integrated_blep_sample}
use Rattle.block.specs.Counting.{as_heard}
use Rattle.block.specs.Limits.{NoneLate}
use Rattle.block.specs.declared.sample.Sample.{Sample}
use Rattle.block.specs.Oscillator.{Oscillator, call_of}
use Rattle.block.proofs.Oscillators.{call_none_late}
use Rattle.block.proofs.AsHeard.{sample_as_heard, with_sample, call_unchanged}
use Rattle.edges.specs.declared.Edge.{Edge}
use Rattle.edges.specs.Triangle.{triangle_step, rise_time}
use Rattle.edges.proofs.In01.{risen_of01, wrapped_of01}
use Rattle.variable_saw.specs.declared.State.{State}
use Rattle.variable_saw.specs.declared.sample.Wave.{Wave}
use Rattle.variable_saw.specs.Sample.{notch_depth, wave_of, rise_of, wrap_of, edge_of, finish, sample_of, sample_at}
use Rattle.variable_saw.specs.Block.{Arguments, variable_saw}

-- ---- the definitions of 01, where today's differ
unfoldable pub rise_of01 : Wave → Float → Float → Edge → Edge
rise_of01 w frequency previousPw e =
    let step = triangle_step w.slope_up w.slope_down frequency w.triangle_amount in
    let notch = (notch_depth ⊕ one32 ⊖ w.pw) ⊗ w.notch_amount in
    let t = rise_time e.phase w.pw previousPw frequency in
    risen_of01
    (e.this_sample ⊕ notch ⊗ this_blep_sample t ⊖ step ⊗ this_integrated_blep_sample t)
    (e.next_sample ⊕ notch ⊗ next_blep_sample t ⊖ step ⊗ next_integrated_blep_sample t)
    e

unfoldable pub wrap_of01 : Wave → Float → Edge → Edge
wrap_of01 w frequency e =
    let phase' = e.phase ⊖ one32 in
    let step = triangle_step w.slope_up w.slope_down frequency w.triangle_amount in
    let notch = (notch_depth ⊕ one32) ⊗ w.notch_amount in
    let t = phase' ⊘ frequency in
    wrapped_of01 phase'
    (e.this_sample ⊖ notch ⊗ this_blep_sample t ⊕ step ⊗ this_integrated_blep_sample t)
    (e.next_sample ⊖ notch ⊗ next_blep_sample t ⊕ step ⊗ next_integrated_blep_sample t)
    e

unfoldable pub sample_of01 : State → Float → Float → Float → Sample State
sample_of01 s frequency pw waveshape =
    let w = wave_of pw waveshape in
    let e = edge_of s frequency in
    cond (not e.high && le pw e.phase) (finish w frequency 0 (rise_of01 w frequency s.previous_pw e))
    (cond (le one32 e.phase) (finish w frequency 1 (wrap_of01 w frequency e))
    (finish w frequency 0 e))

abbrev pub sample_at01 : State → List Float → Float → Sample State
sample_at01 s steps x =
    let t = sample_of01 s (get_or steps 0 zero32) (get_or steps 1 zero32) (get_or steps 2 zero32) in
    record { state = t.state; sample = t.sample; counts = t.counts }

abbrev pub variable_saw01 : Oscillator State Arguments
variable_saw01 = with_sample variable_saw (λ a. sample_at01)

-- ---- the comparison
-- what 01's sample and today's come to: nothing late, and the same with the late ones added back
record Same (old new : Sample State) : Type 0 where
  none : NoneLate new.counts
  same : old ≡ record { state = new.state; sample = new.sample; counts = as_heard new.counts }

module _ (s : State) (f pw waveshape : Float) where
  abbrev w : Wave
  w = wave_of pw waveshape

  abbrev e : Edge
  e = edge_of s f

  rise_same : Same (finish w f 0 (rise_of01 w f s.previous_pw e)) (finish w f 0 (rise_of w f s.previous_pw e))
  unfolding finish rise_of rise_of01
  rise_same = record { none = record { rises = refl; falls = refl }; same = refl }

  wrap_same : Same (finish w f 1 (wrap_of01 w f e)) (finish w f 1 (wrap_of w f e))
  unfolding finish wrap_of wrap_of01
  wrap_same = go s.high refl
    where
      go : (high : Bool) → s.high ≡ high → Same (finish w f 1 (wrap_of01 w f e)) (finish w f 1 (wrap_of w f e))
      go true h = record { none = record { rises = refl; falls = rw h refl }; same = rw h refl }
      go false h = record { none = record { rises = refl; falls = rw h refl }; same = rw h refl }

  stay_same : Same (finish w f 0 e) (finish w f 0 e)
  unfolding finish
  stay_same = record { none = record { rises = refl; falls = refl }; same = refl }

  sample_same : Same (sample_of01 s f pw waveshape) (sample_of s f pw waveshape)
  unfolding sample_of sample_of01
  sample_same = go (not s.high && le pw (s.phase ⊕ f)) (le one32 (s.phase ⊕ f))
    where
      go : (r o : Bool)
          → Same (cond r (finish w f 0 (rise_of01 w f s.previous_pw e)) (cond o (finish w f 1 (wrap_of01 w f e)) (finish w f 0 e)))
          (cond r (finish w f 0 (rise_of w f s.previous_pw e)) (cond o (finish w f 1 (wrap_of w f e)) (finish w f 0 e)))
      go true o = rise_same
      go false true = wrap_same
      go false false = stay_same

at_same : (s : State) (steps : List Float) (x : Float) → sample_at01 s steps x ≡ sample_as_heard (sample_at s steps x)
at_same s steps x = rw (sample_same s (get_or steps 0 zero32) (get_or steps 1 zero32) (get_or steps 2 zero32)).same

pub sample_heard : (s : State) (steps : List Float) (x : Float) → NoneLate (sample_at s steps x).counts
sample_heard s steps x = (sample_same s (get_or steps 0 zero32) (get_or steps 1 zero32) (get_or steps 2 zero32)).none

pub as_in_01 : (s : State) (a : Arguments) → call_of variable_saw01 s a ≡ call_of variable_saw s a
as_in_01 = call_unchanged variable_saw (λ a. sample_at01) (λ a. at_same) (call_none_late variable_saw (λ a. sample_heard))
