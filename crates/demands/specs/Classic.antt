-- What is promised of the classic oscillator by shape, beside the demands: of every call, answered or refused. Assumes nothing.
use Rattle.std.specs.Prelude.{◌≡◌, true, Some, List, [], ◌∷◌, length, Float}
use Rattle.parameter_interpolator.specs.Interpolator.{new_interpolator}
use Rattle.ranges.specs.Ranges.{unit_in}
use Rattle.rooms.specs.declared.Room.TheVariants.{Frequency}
use Rattle.rooms.specs.Steps.{steps_of, first_outside}
use Rattle.block.specs.declared.Counts.{Counts}
use Rattle.block.specs.Counting.{all_rises, all_falls}
use Rattle.classic.specs.declared.State.{State}
use Rattle.classic.specs.declared.OscillatorShape.{OscillatorShape}
use Rattle.classic.specs.Targets.{frequency_target}
use Rattle.classic.specs.Block.{render_of}

-- of each call of a shape, from any state: P of the state that it was given, of the state that it left, and of what it counted
abbrev pub EachCall : OscillatorShape → (State → State → Counts → Type 0) → Type 0
EachCall shape P = (s : State) (frequency pw : Float) (xs : List Float) → (let c = render_of s frequency pw shape xs in P s c.state c.counts)

-- of ImpulseTrain and Saw, which do not look at `high`: it stays, and neither rises nor falls are counted
pub record NoSides (s after : State) (c : Counts) : Type 0 where
  pub rises : all_rises c ≡ 0
  pub falls : all_falls c ≡ 0
  pub high : after.high ≡ s.high

-- 02 (i): "`Triangle` and `SquareTriangle` don't step the pulse width": the state's is kept as it is
pub record WidthKept (s after : State) (c : Counts) : Type 0 where
  pub pw : after.pw ≡ s.pw

-- no shape has a reset
pub record NoCuts (s after : State) (c : Counts) : Type 0 where
  pub cuts : c.cuts ≡ 0

-- what only `init` writes
pub record FactorsKept (s after : State) (c : Counts) : Type 0 where
  pub coefficient : after.impulse_train_lp_coeff ≡ s.impulse_train_lp_coeff
  pub gain : after.impulse_train_gain ≡ s.impulse_train_gain

-- "and it must not drift either": a 6 is the frequency's, with the index of its first step outside its own room
abbrev pub DriftsByFrequency : OscillatorShape → Type 0
DriftsByFrequency shape =
    (s : State) (frequency pw : Float) (xs : List Float) → (let c = render_of s frequency pw shape xs in
    c.number ≡ 6 → first_outside (Frequency ∷ []) (steps_of (length xs) (new_interpolator s.frequency (frequency_target frequency) (length xs) ∷ [])) ≡ Some c.index)

-- their width is 0.5: whichever width in its range a call asks for, it gives the same
abbrev pub WidthUnread : OscillatorShape → Type 0
WidthUnread shape =
    (s : State) (frequency pw other : Float) (xs : List Float) → unit_in pw ≡ true → unit_in other ≡ true → render_of s frequency pw shape xs ≡ render_of s frequency other shape xs
