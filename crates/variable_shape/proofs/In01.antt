-- The variable shape as 01 had it, before 02 (iii): every crossing is counted as heard. And today's call with the late ones added back is that call. Assumes nothing.
use mathlib.Core.Path.{◌≡◌, refl}
use mathlib.Core.Bool.{Bool, true, false, ◌&&◌, cond}
use mathlib.Core.List.{List}
use Prim.Native.Nat.{◌≤◌}
use lib.Ieee.{Float, le}
use Rattle.floats.specs.F32.{◌⊕◌, ◌⊖◌, ◌⊗◌, ◌⊘◌, one32}
use Rattle.polyblep.specs.Polyblep.{this_blep_sample, next_blep_sample, this_integrated_blep_sample, next_integrated_blep_sample}
use Rattle.block.specs.Counting.{one_if, as_heard}
use Rattle.block.specs.declared.sample.Sample.{Sample}
use Rattle.block.specs.Calls.{call_as_heard}
use Rattle.block.specs.Oscillator.{Oscillator, call_of}
use Rattle.block.proofs.Oscillators.{call_none_late}
use Rattle.block.proofs.AsHeard.{sample_as_heard, with_sample, call_as_heard_lem, call_unchanged}
use Rattle.edges.specs.declared.Edge.{Edge}
use Rattle.edges.specs.Counted.{is_late}
use Rattle.edges.specs.CrossingLoop.{crossing_loop}
use Rattle.edges.specs.Sync.{reset_time}
use Rattle.edges.specs.Triangle.{triangle_step, rise_time}
use Rattle.edges.proofs.Totals.{every_rise, every_fall}
use Rattle.edges.proofs.In01.{risen_of01, fallen_of01, reset_of01}
use Rattle.edges.proofs.AsHeard.{In01, edge_as_heard, rose_as_heard, fell_as_heard, loop_as_heard, reset_as_heard}
use Rattle.variable_shape.specs.declared.State.{State}
use Rattle.variable_shape.specs.declared.steps.Steps.{Steps}
use Rattle.variable_shape.specs.declared.waveform.Waveform.{Waveform}
use Rattle.variable_shape.specs.Waveform.{waveform_of, naive_of}
use Rattle.variable_shape.specs.Sample.{rise_of, fall_of, edge_of, after, finish, reset_sample, free_cycles, plain_sample, master_step, sample_of, steps_at, sample_at}
use Rattle.variable_shape.specs.Block.{Arguments, variable_shape}
use Rattle.variable_shape.proofs.Edges.{crosses}
use Rattle.variable_shape.proofs.Free.{free_falls, sample_heard}

-- ---- the definitions of 01, where today's differ
unfoldable pub rise_of01 : Waveform → Edge → Edge
rise_of01 w e =
    let t = rise_time e.phase w.pw w.previous_pw w.slave_frequency in
    let step = triangle_step w.slope_up w.slope_down w.slave_frequency w.triangle_amount in
    risen_of01
    (e.this_sample ⊕ w.square_amount ⊗ this_blep_sample t ⊖ step ⊗ this_integrated_blep_sample t)
    (e.next_sample ⊕ w.square_amount ⊗ next_blep_sample t ⊖ step ⊗ next_integrated_blep_sample t)
    e

unfoldable pub fall_of01 : Waveform → Edge → Edge
fall_of01 w e =
    let phase' = e.phase ⊖ one32 in
    let t = phase' ⊘ w.slave_frequency in
    let step = triangle_step w.slope_up w.slope_down w.slave_frequency w.triangle_amount in
    fallen_of01 phase'
    (e.this_sample ⊖ (one32 ⊖ w.triangle_amount) ⊗ this_blep_sample t ⊕ step ⊗ this_integrated_blep_sample t)
    (e.next_sample ⊖ (one32 ⊖ w.triangle_amount) ⊗ next_blep_sample t ⊕ step ⊗ next_integrated_blep_sample t)
    e

abbrev pub crossed01 : Waveform → Edge → Edge
crossed01 w e = crossing_loop w.pw (rise_of01 w) (fall_of01 w) e

abbrev pub reset_edge01 : State → Waveform → Float → Edge
reset_edge01 s w time = reset_of01 w.pw (naive_of w) (crossed01 w) s.slave_phase w.slave_frequency time (edge_of s w.slave_frequency)

unfoldable pub reset_sample01 : Bool → State → Steps → Float → Sample State
reset_sample01 phaseOutput s steps masterPhase =
    let w = waveform_of steps s.previous_pw in
    let time = reset_time masterPhase steps.master_frequency in
    let e = reset_edge01 s w time in
    finish true phaseOutput e (after w e masterPhase (time ⊗ steps.slave_frequency) false steps) 1 (one_if e.high)

unfoldable pub plain_sample01 : Bool → Bool → State → Steps → Float → Sample State
plain_sample01 sync phaseOutput s steps masterPhase =
    let w = waveform_of steps s.previous_pw in
    let e = crossed01 w (edge_of s steps.slave_frequency) in
    finish sync phaseOutput e (after w e masterPhase e.phase e.high steps) (free_cycles sync e.crossings.falls) 0

unfoldable pub sample_of01 : Bool → Bool → State → Steps → Sample State
sample_of01 sync phaseOutput s steps =
    let masterPhase = master_step sync s.master_phase steps.master_frequency in
    cond (sync && le one32 masterPhase)
    (reset_sample01 phaseOutput s steps (masterPhase ⊖ one32))
    (plain_sample01 sync phaseOutput s steps masterPhase)

abbrev pub sample_at01 : Bool → Bool → State → List Float → Float → Sample State
sample_at01 sync phaseOutput s steps x =
    let t = sample_of01 sync phaseOutput s (steps_at phaseOutput s steps) in
    record { state = t.state; sample = t.sample; counts = t.counts }

abbrev pub variable_shape01 : Bool → Oscillator State Arguments
variable_shape01 sync = with_sample (variable_shape sync) (λ a. sample_at01 sync a.phase_output)

-- ---- the comparison
abbrev sampled_as_heard : Sample State → Sample State
sampled_as_heard t = record { state = t.state; sample = t.sample; counts = as_heard t.counts }

rises_as_heard : (w : Waveform) (e : Edge) → every_rise e.crossings ≤ 1 → rise_of01 w (edge_as_heard e) ≡ edge_as_heard (rise_of w e)
unfolding rise_of rise_of01
rises_as_heard w e h = rw (rose_as_heard (is_late e (rise_time e.phase w.pw w.previous_pw w.slave_frequency)) e.crossings h)

falls_as_heard : (w : Waveform) (e : Edge) → every_fall e.crossings ≤ 1 → fall_of01 w (edge_as_heard e) ≡ edge_as_heard (fall_of w e)
unfolding fall_of fall_of01
falls_as_heard w e h = rw (fell_as_heard (is_late e ((e.phase ⊖ one32) ⊘ w.slave_frequency)) e.crossings h)

abbrev in_01 : (w : Waveform) → In01 (crosses w)
in_01 w = record { rise = rise_of01 w; fall = fall_of01 w; rises = rises_as_heard w; falls = falls_as_heard w }

module _ (phaseOutput : Bool) (s : State) (steps : Steps) where
  abbrev wave : Waveform
  wave = waveform_of steps s.previous_pw

  plain_as_heard : (sync : Bool) (p : Float) → plain_sample01 sync phaseOutput s steps p ≡ sampled_as_heard (plain_sample sync phaseOutput s steps p)
  unfolding plain_sample plain_sample01 finish
  plain_as_heard sync p =
      let f = steps.slave_frequency in
      rw (loop_as_heard (crosses wave) (in_01 wave) (edge_of s f) refl, ← free_falls wave s f)

  resets_as_heard : (p : Float) → reset_sample01 phaseOutput s steps p ≡ sampled_as_heard (reset_sample phaseOutput s steps p)
  unfolding reset_sample reset_sample01 finish
  resets_as_heard p =
      rw (reset_as_heard (crosses wave) (in_01 wave) (naive_of wave) s.slave_phase wave.slave_frequency (reset_time p steps.master_frequency) (edge_of s wave.slave_frequency) refl)

  sample_as_heard_lem : (sync : Bool) → sample_of01 sync phaseOutput s steps ≡ sampled_as_heard (sample_of sync phaseOutput s steps)
  unfolding sample_of sample_of01
  sample_as_heard_lem sync = let p = master_step sync s.master_phase steps.master_frequency in go p (sync && le one32 p)
    where
      go : (p : Float) (b : Bool) → cond b (reset_sample01 phaseOutput s steps (p ⊖ one32)) (plain_sample01 sync phaseOutput s steps p)
          ≡ sampled_as_heard (cond b (reset_sample phaseOutput s steps (p ⊖ one32)) (plain_sample sync phaseOutput s steps p))
      go p true = resets_as_heard (p ⊖ one32)
      go p false = plain_as_heard sync p

at_as_heard : (sync phaseOutput : Bool) (s : State) (steps : List Float) (x : Float) → sample_at01 sync phaseOutput s steps x ≡ sample_as_heard (sample_at sync phaseOutput s steps x)
at_as_heard sync phaseOutput s steps x = rw (sample_as_heard_lem phaseOutput s (steps_at phaseOutput s steps) sync)

pub as_in_01 : (sync : Bool) (s : State) (a : Arguments) → call_of (variable_shape01 sync) s a ≡ call_as_heard (call_of (variable_shape sync) s a)
as_in_01 sync = call_as_heard_lem (variable_shape sync) (λ a. sample_at01 sync a.phase_output) (λ a. at_as_heard sync a.phase_output)

-- without sync nothing is late, and a call is what it was
pub unchanged : (s : State) (a : Arguments) → call_of (variable_shape01 false) s a ≡ call_of (variable_shape false) s a
unchanged =
    call_unchanged (variable_shape false) (λ a. sample_at01 false a.phase_output) (λ a. at_as_heard false a.phase_output)
    (call_none_late (variable_shape false) (λ a. sample_heard a.phase_output))
