-- How many samples a call leaves: as many as its buffer had, and an answered one at most 4,096. Assumes nothing.
use Rattle.std.proofs.Common.{◌≡◌, suc, ◌≤◌, List, [], ◌∷◌, length, refl, ap, lt_of_not-le, arith}
use lib.Ieee.{Float}
use Rattle.block.specs.declared.Counts.{Counts}
use Rattle.block.specs.Counting.{no_counts}
use Rattle.block.specs.declared.sample.Sample.{Sample}
use Rattle.block.specs.Play.{play}
use Rattle.block.specs.Calls.{Call}
use Rattle.block.specs.Oscillator.{Oscillator, call_of, steps_in, Way, refused, drifted, answered}
use Rattle.block.proofs.Ways.{way}
use Rattle.block.proofs.Oscillators.{long_refused}

-- a buffer keeps its length while it is played
play_long : {S : Type 0} (make : S → List Float → Float → Sample S) (steps : List (List Float)) (xs : List Float) (s : S) (c : Counts) → length (play make s c steps xs).samples ≡ length xs
unfolding play
play_long make [] xs s c = refl
play_long make (step ∷ rest) [] s c = refl
play_long make (step ∷ rest) (x ∷ xs) s c = ap suc (play_long make rest xs _ _)

module _ {S A : Type 0} (o : Oscillator S A) (s : S) (a : A) where
  -- and by a call, whatever its answer
  pub call_long : length (call_of o s a).samples ≡ length (o.buffer a)
  call_long = go (way o s a)
    where
      go : {c : Call S} → Way o s a c → length c.samples ≡ length (o.buffer a)
      go (refused f) = refl
      go (drifted p h) = refl
      go (answered p h) = play_long (o.sample a) (steps_in o s a) (o.buffer a) s no_counts

  -- a longer one is not answered
  pub answered_short : (call_of o s a).number ≡ 0 → length (o.buffer a) ≤ 4096
  answered_short h = omega (arith, lt_of_not-le (λ (g : 4097 ≤ length (o.buffer a)). omega (arith, h, ap (λ (c : Call S). c.number) (long_refused o s a g))))
