-- What the crate's own functions ask of each other. No public contract cites it, and a reader need not believe it.
-- A tick is 2^-24, and 4456448 ticks are 17/64. Assumes nothing.
use Rattle.std.specs.Prelude.{◌≡◌, refl, true, List, [], ◌∷◌, ◌*◌, Float}
use Rattle.floats.specs.F32.{◌⊗◌}
use Rattle.floats.proofs.Ticks.{tick, cycle}
use Rattle.floats.proofs.Ranges.{Under, Positive}
use Rattle.ranges.specs.Ranges.{frequency_in}
use Rattle.ranges.specs.Targets.{clipped}
use Rattle.rooms.specs.declared.Room.TheVariants.{Frequency}
use Rattle.rooms.proofs.Guard.{Course}
use Rattle.edges.specs.declared.Edge.{Edge}
use Rattle.edges.specs.CrossingLoop.{Rises, Falls}
use Rattle.super_square.specs.declared.State.{State}
use Rattle.super_square.specs.Sample.{rise_of, fall_of}
use Rattle.super_square.specs.Block.{factor_of}

-- both phases are binary32 values of at least 0 and below 1, and the frequencies pass their test
pub record Valid (s : State) : Type 0 where
  pub master : Under s.master_phase cycle
  pub slave : Under s.slave_phase cycle
  pub master_frequency : frequency_in s.master_frequency ≡ true
  pub slave_frequency : frequency_in s.slave_frequency ≡ true

-- and both steps lie above 0 and are at most 17/64
pub record Ready (s : State) (masterFrequency slaveFrequency : Float) : Type 0 where
  pub valid : Valid s
  pub master : Positive masterFrequency (4456448 * tick)
  pub slave : Positive slaveFrequency (4456448 * tick)

-- the courses of its parameters: the master's frequency and the slave's go to their targets
abbrev pub courses : State → Float → Float → List Course
courses s frequency shape =
    record { room = Frequency; value = s.master_frequency; target = clipped frequency }
    ∷ record { room = Frequency; value = s.slave_frequency; target = clipped (frequency ⊗ factor_of shape) }
    ∷ []

-- a rise and a fall are what the crossing loop asks
pub rises : (slaveFrequency : Float) (e : Edge) → Rises e (rise_of slaveFrequency e)
unfolding rise_of
rises f e = record { t = _; phase = refl; high = refl; reset = refl; counts = refl }

pub falls : (slaveFrequency : Float) (e : Edge) → Falls e (fall_of slaveFrequency e)
unfolding fall_of
falls f e = record { t = _; phase = refl; high = refl; reset = refl; counts = refl }
