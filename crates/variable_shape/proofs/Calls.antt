-- What a call of the variable shape makes sure of, and what `render` leaves once its checks have passed. Assumes nothing.
use mathlib.Core.Path.{◌≡◌, refl}
use mathlib.Core.Bool.{Bool, true, false}
use mathlib.Core.List.{List, [], ◌∷◌}
use lib.ListN.{length}
use Rattle.parameter_interpolator.specs.declared.ParameterInterpolator.{ParameterInterpolator}
use Rattle.ranges.specs.Ranges.{modulation_or_gain_in}
use Rattle.block.specs.Account.{AllFit}
use Rattle.ranges.proofs.AllOf.{each_of}
use Rattle.rooms.proofs.RangeLaws.{phase_under}
use Rattle.variable_shape.specs.declared.State.{State}
use Rattle.variable_shape.specs.Block.{state_in, Arguments, interpolators, rooms}
use Rattle.variable_shape.specs.Private.{Valid}

module _ (s : State) (h : state_in s ≡ true) where
  -- a state that passed its test is valid
  pub valid_of : AllFit (s.master_phase ∷ s.slave_phase ∷ []) → Valid s
  unfolding state_in
  valid_of f = let e = each_of _ h in record { master = phase_under f.0 e.0; slave = phase_under f.1.0 e.1.0; ranges = h }

  pub modulation_in : modulation_or_gain_in s.phase_modulation ≡ true
  unfolding state_in
  modulation_in = (each_of _ h).1.1.1.1.1.1.1.0

-- a call's interpolators, with phase modulation's or without
abbrev made : State → Arguments → Bool → List ParameterInterpolator
made s a on = interpolators s a.master_frequency a.frequency a.pw a.waveshape a.phase_modulation on (length a.buffer)

module _ (s : State) (a : Arguments) where
  -- each has its room
  pub paired : (on : Bool) → length (made s a on) ≡ length (rooms on)
  paired true = refl
  paired false = refl
