-- A buffer's samples one after the other, for any oscillator: a sample is made from the state, its steps and what the buffer held. Assumes nothing.
use Rattle.std.specs.Prelude.{List, [], ◌∷◌, Float}
use Rattle.block.specs.declared.Counts.{Counts}
use Rattle.block.specs.declared.sample.Sample.{Sample}
use Rattle.block.specs.Counting.{plus}

-- what a run of samples gives
pub record Heard (S : Type 0) : Type 0 where
  pub state : S
  pub samples : List Float
  pub counts : Counts

-- from a state and the counts so far: one sample for each list of steps, as long as the buffer lasts
unfoldable pub play : {S : Type 0} → (S → List Float → Float → Sample S) → S → Counts → List (List Float) → List Float → Heard S
play make s c [] xs = record { state = s; samples = xs; counts = c }
play make s c (steps ∷ rest) [] = record { state = s; samples = []; counts = c }
play make s c (steps ∷ rest) (x ∷ xs) =
    let t = make s steps x in
    let h = play make t.state (plus c t.counts) rest xs in
    record { state = h.state; samples = t.sample ∷ h.samples; counts = h.counts }
