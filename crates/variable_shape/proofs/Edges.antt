-- The variable shape crosses as the laws of the crossing loop ask; and the edge that a sample starts with. Assumes nothing.
use mathlib.Core.Path.{refl}
use native.Mathlib.Omega.{arith}
use Rattle.floats.proofs.PhaseSteps.{wraps_at_1, phase_sum}
use Rattle.edges.specs.CrossingLoop.{Crosses}
use Rattle.edges.specs.Private.{Crossable}
use Rattle.variable_shape.specs.declared.State.{State}
use Rattle.variable_shape.specs.declared.steps.Steps.{Steps}
use Rattle.variable_shape.specs.declared.waveform.Waveform.{Waveform}
use Rattle.variable_shape.specs.Sample.{rise_of, fall_of, edge_of}
use Rattle.variable_shape.specs.Private.{Ready, rises, falls}

abbrev pub crosses : Waveform → Crosses
crosses w = record { width = w.pw; rise = rise_of w; fall = fall_of w; rises = rises w; falls = falls w }

pub edge_crossable : {s : State} {steps : Steps} → Ready s steps → Crossable steps.pw (edge_of s steps.slave_frequency)
edge_crossable h =
    let z = phase_sum wraps_at_1 h.valid.slave.at h.slave.at (omega (arith, h.valid.slave.under, h.slave.most)) in
    record { narrow = h.width; phase = record { n = z.n; at = z.at; most = z.top }; none = refl }
