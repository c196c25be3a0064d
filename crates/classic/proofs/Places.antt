-- The code takes the width's step from the second place, which is used only where the shape steps it: elsewhere the sample does not read it. Assumes nothing.
use Rattle.std.proofs.Common.{◌≡◌, ℕ, ◌<◌, ◌≤◌, Bool, true, false, cond, List, [], ◌∷◌, length, get_or, refl, arith, lit<}
use lib.Ieee.{Float}
use Rattle.floats.specs.F32.{zero32}
use Rattle.rooms.specs.declared.Room.{Room}
use Rattle.rooms.specs.declared.Room.TheVariants.{Unused, Frequency, PulseWidth}
use Rattle.block.specs.Voices.{Padded}
use Rattle.classic.specs.declared.State.{State}
use Rattle.classic.specs.declared.OscillatorShape.{OscillatorShape}
use Rattle.classic.specs.Shapes.{steps_width}
use Rattle.classic.specs.Sample.{finish, sample_of}
use Rattle.classic.specs.Block.{rooms}
use Rattle.classic.specs.Private.{width_room}

-- five places are enough
pub enough : (shape : OscillatorShape) {n : ℕ} → n ≡ 5 → length (rooms shape) ≤ n
enough shape {n} e = go (steps_width shape)
  where
    go : (stepped : Bool) → length (Frequency ∷ cond stepped (PulseWidth ∷ []) []) ≤ n
    go true = omega (arith, e)
    go false = omega (arith, e)

-- which are the rooms, and behind them those that are not used
pub padded : (shape : OscillatorShape) {room : Room} → room ≡ width_room shape → Padded (rooms shape) (Frequency ∷ room ∷ Unused ∷ Unused ∷ Unused ∷ [])
padded shape e = rw e (go (steps_width shape))
  where
    go : (stepped : Bool) → Padded (Frequency ∷ cond stepped (PulseWidth ∷ []) []) (Frequency ∷ cond stepped PulseWidth Unused ∷ Unused ∷ Unused ∷ Unused ∷ [])
    go true = (3, refl, omega arith)
    go false = (4, refl, omega arith)

-- the steps that the code takes, a value for each place, make the definition's sample
module _ (shape : OscillatorShape) (s : State) (steps : List Float) (value : ℕ → Float) (place : (k : ℕ) → k < length (rooms shape) → value k ≡ get_or steps k zero32) where
  pub read : sample_of shape s (value 0) (value 1) ≡ sample_of shape s (get_or steps 0 zero32) (get_or steps 1 zero32)
  unfolding sample_of finish
  read = go (steps_width shape) refl
    where
      go : (stepped : Bool) → steps_width shape ≡ stepped → sample_of shape s (value 0) (value 1) ≡ sample_of shape s (get_or steps 0 zero32) (get_or steps 1 zero32)
      go true e = rw (place 0 (rw e (lit< tt)), place 1 (rw e (lit< tt)))
      go false e = rw (place 0 (rw e (lit< tt)), e)
