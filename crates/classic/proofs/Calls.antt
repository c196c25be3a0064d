-- What a call of the classic oscillator makes sure of: its state is valid, and each interpolator has its room. Assumes nothing.
use Rattle.std.proofs.Common.{◌≡◌, Bool, true, false, cond, [], ◌∷◌, length, refl}
use Rattle.parameter_interpolator.specs.Interpolator.{new_interpolator}
use Rattle.ranges.proofs.AllOf.{each_of, of_each}
use Rattle.rooms.specs.declared.Room.TheVariants.{Frequency, PulseWidth}
use Rattle.rooms.proofs.RangeLaws.{phase_under, under_phase}
use Rattle.block.specs.Account.{Phases32}
use Rattle.classic.specs.declared.State.{State}
use Rattle.classic.specs.Shapes.{steps_width}
use Rattle.classic.specs.Targets.{frequency_target, width_target}
use Rattle.classic.specs.Block.{state_in, Arguments, interpolators, rooms, classic}
use Rattle.classic.specs.Private.{Valid}

-- a state that passed its test is valid, and the other way round
pub valid_of : (s : State) → Phases32 classic s → state_in s ≡ true → Valid s
unfolding state_in
valid_of s f h = let e = each_of _ h in record { phase = phase_under f.0 e.0; frequency = e.1.0; pw = e.1.1.0 }

pub of_valid : (s : State) → Valid s → state_in s ≡ true
unfolding state_in
of_valid s v = of_each _ (under_phase v.phase, (v.frequency, (v.pw, tt)))

-- each interpolator has its room
pub paired : (s : State) (a : Arguments) → length (interpolators s a.frequency a.pw a.shape (length a.buffer)) ≡ length (rooms a.shape)
paired s a = go (steps_width a.shape)
  where
    go : (stepped : Bool)
        → length
        (new_interpolator s.frequency (frequency_target a.frequency) (length a.buffer)
        ∷ cond stepped (new_interpolator s.pw (width_target (frequency_target a.frequency) a.pw) (length a.buffer) ∷ []) [])
        ≡ length (Frequency ∷ cond stepped (PulseWidth ∷ []) [])
    go true = refl
    go false = refl
