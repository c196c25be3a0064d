-- What the crate's own functions ask of each other. No public contract cites it, and a reader need not believe it.
-- A tick is 2^-24: 21233664 of them are 81/64. Assumes nothing.
use Rattle.std.specs.Prelude.{◌≡◌, Bool, true, false, List, [], ◌∷◌, ℕ, suc, ◌*◌, Float}
use Rattle.floats.proofs.Ticks.{tick, cycle}
use Rattle.floats.proofs.Ranges.{Under}
use Rattle.ranges.specs.Ranges.{frequency_in, unit_in, waveshape_in}
use Rattle.ranges.specs.Targets.{clipped, clamped_width}
use Rattle.rooms.specs.declared.Room.TheVariants.{Frequency, PulseWidth, Waveshape}
use Rattle.rooms.proofs.Guard.{Course}
use Rattle.variable_saw.specs.declared.State.{State}

-- what the phase stays below: 1 when `high` is false; when it is true, the next number of units after 81/64
abbrev pub reach : Bool → ℕ
reach false = cycle
reach true = suc (21233664 * tick)

-- the phase is a binary32 value of at least 0 within its reach, and the others pass their tests
pub record Valid (s : State) : Type 0 where
  pub phase : Under s.phase (reach s.high)
  pub previous_pw : unit_in s.previous_pw ≡ true
  pub frequency : frequency_in s.frequency ≡ true
  pub pw : unit_in s.pw ≡ true
  pub waveshape : waveshape_in s.waveshape ≡ true

-- the courses of its parameters: the frequency, the width and the waveshape go to their targets
abbrev pub courses : State → Float → Float → Float → List Course
courses s frequency pw waveshape =
    record { room = Frequency; value = s.frequency; target = clipped frequency }
    ∷ record { room = PulseWidth; value = s.pw; target = clamped_width (clipped frequency) pw }
    ∷ record { room = Waveshape; value = s.waveshape; target = waveshape }
    ∷ []
