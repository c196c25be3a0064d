-- What the crate's own functions ask of each other. No public contract cites it, and a reader need not believe it. Assumes nothing.
use Rattle.std.specs.Prelude.{◌≡◌, List, ℕ, ◌≤◌, ◌<◌, length, take, Float}

-- The first r samples are the sound, where they are no more than a stem has. Where they are more, so is the sound.
pub record Laid (sound : List Float) (r : ℕ) (d : List Float) : Type 0 where
  pub room : r ≤ length d
  pub whole : r ≤ 1048576 → sound ≡ take r d
  pub over : 1048576 < r → 1048576 < length sound
