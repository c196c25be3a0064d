-- The super square as 01 had it, before 02 (iii): every crossing is counted as heard. And today's call with the late ones added back is that call. Assumes nothing.
use mathlib.Core.Path.{◌≡◌, refl}
use mathlib.Core.Bool.{Bool, true, false, cond}
use mathlib.Core.List.{List}
use Prim.Native.Nat.{◌≤◌}
use lib.ListN.{get_or}
use lib.Ieee.{Float, le}
use Rattle.floats.specs.F32.{◌⊕◌, ◌⊖◌, ◌⊗◌, ◌⊘◌, zero32, half32, one32}
use Rattle.polyblep.specs.Polyblep.{this_blep_sample, next_blep_sample}
use Rattle.block.specs.Counting.{one_if, as_heard}
use Rattle.block.specs.declared.sample.Sample.{Sample}
use Rattle.block.specs.Calls.{call_as_heard}
use Rattle.block.specs.Oscillator.{Oscillator, call_of}
use Rattle.block.proofs.AsHeard.{sample_as_heard, with_sample, call_as_heard_lem}
use Rattle.edges.specs.declared.Edge.{Edge}
use Rattle.edges.specs.Counted.{is_late}
use Rattle.edges.specs.CrossingLoop.{crossing_loop}
use Rattle.edges.specs.Sync.{reset_time}
use Rattle.edges.proofs.In01.{risen_of01, fallen_of01, reset_of01}
use Rattle.edges.proofs.Totals.{every_rise, every_fall}
use Rattle.edges.proofs.AsHeard.{In01, edge_as_heard, rose_as_heard, fell_as_heard, loop_as_heard, reset_as_heard}
use Rattle.super_square.specs.declared.State.{State}
use Rattle.super_square.specs.Sample.{level, rise_of, fall_of, edge_of, after, finish, reset_sample, plain_sample, sample_of, sample_at}
use Rattle.super_square.specs.Block.{Arguments, super_square}
use Rattle.super_square.proofs.Edges.{crosses}

-- ---- the definitions of 01, where today's differ
unfoldable pub rise_of01 : Float → Edge → Edge
rise_of01 slaveFrequency e =
    let t = (e.phase ⊖ half32) ⊘ slaveFrequency in
    risen_of01
    (e.this_sample ⊕ this_blep_sample t)
    (e.next_sample ⊕ next_blep_sample t)
    e

unfoldable pub fall_of01 : Float → Edge → Edge
fall_of01 slaveFrequency e =
    let phase' = e.phase ⊖ one32 in
    let t = phase' ⊘ slaveFrequency in
    fallen_of01 phase'
    (e.this_sample ⊖ this_blep_sample t)
    (e.next_sample ⊖ next_blep_sample t)
    e

abbrev pub crossed01 : Float → Edge → Edge
crossed01 slaveFrequency e = crossing_loop half32 (rise_of01 slaveFrequency) (fall_of01 slaveFrequency) e

abbrev pub reset_edge01 : State → Float → Float → Edge
reset_edge01 s slaveFrequency time = reset_of01 half32 level (crossed01 slaveFrequency) s.slave_phase slaveFrequency time (edge_of s slaveFrequency)

unfoldable pub reset_sample01 : State → Float → Float → Float → Sample State
reset_sample01 s masterFrequency slaveFrequency masterPhase =
    let time = reset_time masterPhase masterFrequency in
    let e = reset_edge01 s slaveFrequency time in
    finish e (after e masterPhase (time ⊗ slaveFrequency) false masterFrequency slaveFrequency) 1 (one_if e.high)

unfoldable pub plain_sample01 : State → Float → Float → Float → Sample State
plain_sample01 s masterFrequency slaveFrequency masterPhase =
    let e = crossed01 slaveFrequency (edge_of s slaveFrequency) in
    finish e (after e masterPhase e.phase e.high masterFrequency slaveFrequency) 0 0

unfoldable pub sample_of01 : State → Float → Float → Sample State
sample_of01 s masterFrequency slaveFrequency =
    let masterPhase = s.master_phase ⊕ masterFrequency in
    cond (le one32 masterPhase)
    (reset_sample01 s masterFrequency slaveFrequency (masterPhase ⊖ one32))
    (plain_sample01 s masterFrequency slaveFrequency masterPhase)

abbrev pub sample_at01 : State → List Float → Float → Sample State
sample_at01 s steps x =
    let t = sample_of01 s (get_or steps 0 zero32) (get_or steps 1 zero32) in
    record { state = t.state; sample = t.sample; counts = t.counts }

abbrev pub super_square01 : Oscillator State Arguments
super_square01 = with_sample super_square (λ a. sample_at01)

-- ---- the comparison
abbrev sampled_as_heard : Sample State → Sample State
sampled_as_heard t = record { state = t.state; sample = t.sample; counts = as_heard t.counts }

rises_as_heard : (f : Float) (e : Edge) → every_rise e.crossings ≤ 1 → rise_of01 f (edge_as_heard e) ≡ edge_as_heard (rise_of f e)
unfolding rise_of rise_of01
rises_as_heard f e h = rw (rose_as_heard (is_late e ((e.phase ⊖ half32) ⊘ f)) e.crossings h)

falls_as_heard : (f : Float) (e : Edge) → every_fall e.crossings ≤ 1 → fall_of01 f (edge_as_heard e) ≡ edge_as_heard (fall_of f e)
unfolding fall_of fall_of01
falls_as_heard f e h = rw (fell_as_heard (is_late e ((e.phase ⊖ one32) ⊘ f)) e.crossings h)

abbrev in_01 : (slaveFrequency : Float) → In01 (crosses slaveFrequency)
in_01 f = record { rise = rise_of01 f; fall = fall_of01 f; rises = rises_as_heard f; falls = falls_as_heard f }

module _ (s : State) (m f : Float) where
  plain_as_heard : (p : Float) → plain_sample01 s m f p ≡ sampled_as_heard (plain_sample s m f p)
  unfolding plain_sample plain_sample01 finish
  plain_as_heard p = rw (loop_as_heard (crosses f) (in_01 f) (edge_of s f) refl)

  resets_as_heard : (p : Float) → reset_sample01 s m f p ≡ sampled_as_heard (reset_sample s m f p)
  unfolding reset_sample reset_sample01 finish
  resets_as_heard p = rw (reset_as_heard (crosses f) (in_01 f) level s.slave_phase f (reset_time p m) (edge_of s f) refl)

  sample_as_heard_lem : sample_of01 s m f ≡ sampled_as_heard (sample_of s m f)
  unfolding sample_of sample_of01
  sample_as_heard_lem = go (le one32 (s.master_phase ⊕ m))
    where
      go : (b : Bool) → cond b (reset_sample01 s m f (s.master_phase ⊕ m ⊖ one32)) (plain_sample01 s m f (s.master_phase ⊕ m))
          ≡ sampled_as_heard (cond b (reset_sample s m f (s.master_phase ⊕ m ⊖ one32)) (plain_sample s m f (s.master_phase ⊕ m)))
      go true = resets_as_heard (s.master_phase ⊕ m ⊖ one32)
      go false = plain_as_heard (s.master_phase ⊕ m)

at_as_heard : (s : State) (steps : List Float) (x : Float) → sample_at01 s steps x ≡ sample_as_heard (sample_at s steps x)
at_as_heard s steps x = rw (sample_as_heard_lem s (get_or steps 0 zero32) (get_or steps 1 zero32))

pub as_in_01 : (s : State) (a : Arguments) → call_of super_square01 s a ≡ call_as_heard (call_of super_square s a)
as_in_01 = call_as_heard_lem super_square (λ a. sample_at01) (λ a. at_as_heard)
