-- The ranges of states, from the tests and back. Assumes nothing.
use mathlib.Core.Path.{◌≡◌}
use mathlib.Core.Bool.{true}
use Prim.Native.Nat.{◌*◌}
use lib.Dec.{T}
use lib.Ieee.{Float, binary32, fits}
use Rattle.floats.specs.F32.{zero32, one32}
use Rattle.floats.proofs.Order.{lt→le}
use Rattle.floats.proofs.Ticks.{tick, cycle, one_at, top_step_at}
use Rattle.floats.proofs.Ranges.{Under, Positive, at_least_0, under_of, under_lt, positive_le, positive_of}
use Rattle.rooms.specs.declared.Room.TheVariants.{Frequency, PulseWidth}
use Rattle.rooms.specs.Rooms.{in_room}
use Rattle.ranges.specs.Ranges.{phase_in, frequency_in, unit_in}
use Rattle.floats.proofs.Bools.{and_both}

-- a phase that passed its test
pub phase_under : {x : Float} → T (fits binary32 x) → phase_in x ≡ true → Under x cycle
phase_under t h = let p = and_both _ _ h in under_of t p.0 p.1 one_at

pub under_phase : {x : Float} → Under x cycle → phase_in x ≡ true
under_phase u = rw (at_least_0 u.at, under_lt one_at u)

-- a frequency's step in its room, and the state's range that it is in
pub frequency_step : {x : Float} → T (fits binary32 x) → in_room Frequency x ≡ true → Positive x (4456448 * tick)
frequency_step t h = let p = and_both _ _ h in positive_of t p.0 p.1 top_step_at

pub step_frequency : {x : Float} → Positive x (4456448 * tick) → frequency_in x ≡ true
step_frequency p = rw (at_least_0 p.at, positive_le top_step_at p)

-- a pulse width's step in its room, and the state's range that it is in
pub width_step : {x : Float} → T (fits binary32 x) → in_room PulseWidth x ≡ true → Under x cycle
width_step t h = let p = and_both _ _ h in under_of t (lt→le _ _ p.0) p.1 one_at

pub width_unit : (x : Float) → in_room PulseWidth x ≡ true → unit_in x ≡ true
width_unit x h = let p = and_both _ _ h in rw (lt→le zero32 x p.0, lt→le x one32 p.1)

pub step_width : {x : Float} → Under x cycle → unit_in x ≡ true
step_width u = rw (at_least_0 u.at, lt→le _ _ (under_lt one_at u))
