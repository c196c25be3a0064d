-- What a call of the super square makes sure of: its state is valid. Assumes nothing.
use mathlib.Core.Path.{◌≡◌}
use mathlib.Core.Bool.{true}
use Rattle.block.specs.Account.{Phases32}
use Rattle.ranges.proofs.AllOf.{each_of, of_each}
use Rattle.rooms.proofs.RangeLaws.{phase_under, under_phase}
use Rattle.super_square.specs.declared.State.{State}
use Rattle.super_square.specs.Block.{state_in, super_square}
use Rattle.super_square.specs.Private.{Valid}

-- a state that passed its test is valid, and the other way round
pub valid_of : (s : State) → Phases32 super_square s → state_in s ≡ true → Valid s
unfolding state_in
valid_of s f h = let e = each_of _ h in record { master = phase_under f.0 e.0; slave = phase_under f.1.0 e.1.0; master_frequency = e.1.1.0; slave_frequency = e.1.1.1.0 }

pub of_valid : (s : State) → Valid s → state_in s ≡ true
unfolding state_in
of_valid s v = of_each _ (under_phase v.master, (under_phase v.slave, (v.master_frequency, (v.slave_frequency, tt))))
