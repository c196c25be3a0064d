-- A call that is fit: Drift where the walk finds a step outside, else the samples. For any oscillator. Assumes nothing.
use Rattle.std.proofs.Common.{◌≡◌, ℕ, Bool, true, false, cond, List, ◌++◌, length, ◌≤◌, sym, refl, ap, ◌∙◌}
use lib.Ieee.{Float}
use Rattle.parameter_interpolator.specs.declared.ParameterInterpolator.{ParameterInterpolator}
use Rattle.rooms.specs.declared.Room.{Room}
use Rattle.std.specs.Prelude.{Option}
use Rattle.rooms.specs.declared.Glides.{Glides}
use Rattle.std.specs.Prelude.{Some, None}
use Rattle.block.specs.Counting.{no_counts}
use Rattle.rooms.specs.Steps.{steps_of, first_outside}
use Rattle.block.specs.declared.sample.Sample.{Sample}
use Rattle.block.specs.Play.{play}
use Rattle.block.specs.Calls.{refusal, done, drift_or, run}
use Rattle.rooms.proofs.Padding.{unused, used, walk_used, used_front}
use Rattle.rooms.proofs.Guard.{Course, rooms_of, starts_of, starts_rooms, glides_of, AllPresumed, safe_nowhere}
use Rattle.block.specs.Voices.{Padded}

module _ {S : Type 0} (make : S → List Float → Float → Sample S) (rooms : List Room) (ps : List ParameterInterpolator) (s : S) (xs : List Float) where
  pub run_drift : (i : ℕ) → first_outside rooms (steps_of (length xs) ps) ≡ Some i → run make rooms ps s xs ≡ refusal 6 i s xs
  unfolding run
  run_drift i h = ap (λ (f : Option ℕ). drift_or f s xs (play make s no_counts (steps_of (length xs) ps) xs)) h

  pub run_done : first_outside rooms (steps_of (length xs) ps) ≡ None → run make rooms ps s xs ≡ done (play make s no_counts (steps_of (length xs) ps) xs)
  unfolding run
  run_done h = ap (λ (f : Option ℕ). drift_or f s xs (play make s no_counts (steps_of (length xs) ps) xs)) h

-- The interpolators of a block, in the words of the guard: the parameters' courses stand in the first places, and where all pass their tests, as the guard presumes them, nothing is found.
module _ {rooms : List Room} {glides : Glides} (n : ℕ) (cs : List Course) (others : List ParameterInterpolator) (at-rooms : rooms ≡ rooms_of cs) (at : glides ≡ glides_of n cs others) where
  pub glides_moving : used rooms glides.interpolators ≡ starts_of n cs
  glides_moving = rw (at-rooms, at) (used_front (rooms_of cs) (starts_of n cs) others (starts_rooms n cs))

  pub glides_safe : n ≤ 4096 → AllPresumed cs → glides.safe ≡ true → first_outside rooms (steps_of n (starts_of n cs)) ≡ None
  glides_safe short p h = rw at-rooms (safe_nowhere n short cs p (sym (ap (λ (g : Glides). g.safe) at) ∙ h))

-- What `find_drift` tells, which takes five places (those without a room of their own change nothing) and leaves the walk out where it may.
pub found_is : (rooms : List Room) {five : List Room} (ps : List ParameterInterpolator) {moving : List ParameterInterpolator} (n : ℕ) {safe : Bool} {found : Option ℕ} → Padded rooms five → used rooms ps ≡ moving
    → (safe ≡ true → first_outside rooms (steps_of n moving) ≡ None) → found ≡ cond safe None (first_outside five (steps_of n ps)) → found ≡ first_outside rooms (steps_of n moving)
found_is rooms {five} ps {moving} n {safe} p at skips searched = searched ∙ rw p.1 (go safe skips)
  where
    go : (b : Bool) → (b ≡ true → first_outside rooms (steps_of n moving) ≡ None) → cond b None (first_outside (rooms ++ unused p.0) (steps_of n ps)) ≡ first_outside rooms (steps_of n moving)
    go true h = sym (h refl)
    go false h = walk_used n rooms p.0 ps ∙ rw at
