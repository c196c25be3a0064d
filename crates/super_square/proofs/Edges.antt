-- The super square crosses as the laws of the crossing loop ask; and the edge that a sample starts with. Assumes nothing.
use mathlib.Core.Path.{refl}
use native.Mathlib.Omega.{arith}
use lib.Ieee.{Float}
use Rattle.floats.specs.F32.{half32}
use Rattle.floats.proofs.Ticks.{tick_pos, half_at}
use Rattle.floats.proofs.PhaseSteps.{wraps_at_1, phase_sum}
use Rattle.edges.specs.CrossingLoop.{Crosses}
use Rattle.edges.specs.Private.{Crossable}
use Rattle.super_square.specs.declared.State.{State}
use Rattle.super_square.specs.Sample.{rise_of, fall_of, edge_of}
use Rattle.super_square.specs.Private.{Ready, rises, falls}

abbrev pub crosses : Float → Crosses
crosses f = record { width = half32; rise = rise_of f; fall = fall_of f; rises = rises f; falls = falls f }

pub edge_crossable : {s : State} {masterFrequency slaveFrequency : Float} → Ready s masterFrequency slaveFrequency → Crossable half32 (edge_of s slaveFrequency)
edge_crossable h =
    let z = phase_sum wraps_at_1 h.valid.slave.at h.slave.at (omega (arith, h.valid.slave.under, h.slave.most)) in
    record {
      narrow = record { n = _; at = half_at; under = omega (arith, tick_pos) };
      phase = record { n = z.n; at = z.at; most = z.top };
      none = refl;
    }
