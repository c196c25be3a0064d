-- A sample of the variable shape without a reset has nothing late. Without sync no sample has one. Assumes nothing.
use mathlib.Core.Path.{◌≡◌, refl}
use mathlib.Core.Bool.{Bool, false}
use mathlib.Core.List.{List}
use native.Mathlib.Omega.{arith}
use lib.Ieee.{Float}
use Rattle.block.specs.Limits.{NoneLate}
use Rattle.edges.proofs.Totals.{NoReset, every_fall, loop_none_late}
use Rattle.variable_shape.specs.declared.State.{State}
use Rattle.variable_shape.specs.declared.waveform.Waveform.{Waveform}
use Rattle.variable_shape.specs.Waveform.{waveform_of}
use Rattle.variable_shape.specs.Sample.{crossed, edge_of, finish, plain_sample, sample_of, steps_at, sample_at}
use Rattle.variable_shape.proofs.Edges.{crosses}

module _ (w : Waveform) (s : State) (f : Float) where
  none_late : NoReset (crossed w (edge_of s f))
  none_late = loop_none_late (crosses w) 2 (edge_of s f) (record { free = refl; rises = refl; falls = refl })

  -- so the falls that are counted as cycles are all its falls
  pub free_falls : (crossed w (edge_of s f)).crossings.falls ≡ every_fall (crossed w (edge_of s f)).crossings
  free_falls = omega (arith, none_late.falls)

pub sample_heard : (phaseOutput : Bool) (s : State) (steps : List Float) (x : Float) → NoneLate (sample_at false phaseOutput s steps x).counts
unfolding sample_of plain_sample finish
sample_heard phaseOutput s steps x =
    let t = steps_at phaseOutput s steps in
    let n = none_late (waveform_of t s.previous_pw) s t.slave_frequency in
    record { rises = n.rises; falls = n.falls }
