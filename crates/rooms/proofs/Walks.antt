-- The walk's two loops, over plain lists: the inner one moves the interpolators of a sample, the outer one goes from sample to sample.
-- Assumes nothing.
use mathlib.Core.Path.{◌≡◌, refl, sym, ◌∙◌, ap}
use mathlib.Core.Bool.{Bool, true, false, not, ◌&&◌, and_assoc}
use mathlib.Core.List.{List, [], ◌∷◌, ◌++◌, append-nil}
use Prim.Native.Nat.{ℕ, suc, ◌+◌, ◌≤◌, ◌<◌, ◌-◌}
use native.Mathlib.Numerals.{add-one}
use native.Mathlib.Omega.{arith}
use lib.ListN.{length, get_or, take, drop, set, length-set, drop_of_length-le}
use lib.Seq.{drop-cons, take-suc-set, drop-set-lt, take-set-lt, take_all, append_snoc, length-take-le, get_or-take}
use borrow.Author.Tests.{not-true, not-false}
use Rattle.parameter_interpolator.specs.declared.ParameterInterpolator.{ParameterInterpolator}
use Rattle.parameter_interpolator.specs.Interpolator.{next_interpolator}
use Rattle.rooms.specs.declared.Room.{Room}
use Rattle.std.specs.Prelude.{Option}
use Rattle.std.specs.Prelude.{Some, None}
use Rattle.rooms.specs.Rooms.{in_room}
use Rattle.rooms.specs.Steps.{moved, values, steps_of, all_in, later, first_outside}

none_outside : (rs : List Room) → all_in rs [] ≡ true
unfolding all_in
none_outside [] = refl
none_outside (r ∷ rs) = refl

-- all in their rooms: those before p, p, and those after it
all_in_split : (rs : List Room) (r : Room) (before : List ParameterInterpolator) (p : ParameterInterpolator) (after : List ParameterInterpolator) → length before < length rs
    → all_in rs (values (before ++ p ∷ after)) ≡ (all_in rs (values before) && (in_room (get_or rs (length before) r) p.value && all_in (drop (suc (length before)) rs) (values after)))
unfolding all_in values
all_in_split [] r before p after h = absurd (omega arith)
all_in_split (s ∷ rs) r [] p after h = refl
all_in_split (s ∷ rs) r (q ∷ before) p after h = rw (all_in_split rs r before p after (omega arith)) (sym (and_assoc (in_room s q.value) _ _))

-- of the first m interpolators, which are those that have a room, k have moved, each into its room
pub record Moving (m : ℕ) (rooms : List Room) (ps₀ : List ParameterInterpolator) (k : ℕ) (ps : List ParameterInterpolator) : Type 0 where
  pub known : m ≤ length rooms
  pub enough : m ≤ length ps
  pub most : k ≤ m
  pub same : moved (take m ps₀) ≡ take k (take m ps) ++ moved (drop k (take m ps))
  pub good : all_in (take m rooms) (values (take k (take m ps))) ≡ true

module _ {m : ℕ} {rooms : List Room} {ps₀ : List ParameterInterpolator} where
  pub moving_start : m ≤ length rooms → m ≤ length ps₀ → Moving m rooms ps₀ 0 ps₀
  unfolding values
  moving_start h l = record { known = h; enough = l; most = omega arith; same = refl; good = none_outside (take m rooms) }

  module _ {k : ℕ} {ps : List ParameterInterpolator} (v : Moving m rooms ps₀ k ps) where
    long : length (take m ps) ≡ m
    long = length-take-le m ps v.enough

    -- p is the k-th interpolator one step on, and `inside` what the test says of it
    module _ (r : Room) (d p : ParameterInterpolator) (inside : Bool) (here : k < m) (next : p ≡ next_interpolator (get_or ps k d)) (test : inside ≡ in_room (get_or rooms k r) p.value) where
      inner : k < length (take m ps)
      inner = omega (arith, long)

      front : length (take k (take m ps)) ≡ k
      front = length-take-le k (take m ps) (omega (arith, inner))

      room : length (take k (take m ps)) < length (take m rooms)
      room = omega (arith, front, length-take-le m rooms v.known)

      tested : in_room (get_or (take m rooms) (length (take k (take m ps))) r) p.value ≡ inside
      tested = rw (front, get_or-take m rooms k r here) (sym test)

      split : moved (take m ps₀) ≡ take k (take m ps) ++ p ∷ moved (drop (suc k) (take m ps))
      unfolding moved
      split = v.same ∙ rw (drop-cons (take m ps) k d inner, get_or-take m ps k d here, next)

      pub moving_out : not inside ≡ true → all_in (take m rooms) (values (moved (take m ps₀))) ≡ false
      moving_out h = rw (split, all_in_split (take m rooms) r (take k (take m ps)) p _ room, tested, v.good, not-true inside h)

      pub moving_more : not inside ≡ false → Moving m rooms ps₀ (k + 1) (set ps k p)
      unfolding values
      moving_more h = record {
        known = v.known;
        enough = simp length-set v.enough;
        most = omega arith;
        same = split ∙ rw (take-set-lt m ps k p here, add-one, take-suc-set (take m ps) k p inner, drop-set-lt (suc k) (take m ps) k _ (omega arith), append_snoc);
        good = rw (take-set-lt m ps k p here, add-one, take-suc-set (take m ps) k p inner, all_in_split (take m rooms) r (take k (take m ps)) p [] room, tested, v.good, not-false inside h, none_outside);
      }

    pub moving_end : m ≤ k → (moved (take m ps₀) ≡ take m ps) × (all_in (take m rooms) (values (take m ps)) ≡ true)
    unfolding moved
    moving_end h =
        let l : length (take m ps) ≤ k = omega (arith, long) in
        (v.same ∙ rw (take_all k (take m ps) l, drop_of_length-le (take m ps) l, append-nil), rw (take_all k (take m ps) l) at v.good)

-- `Option ℕ` moved on by i samples
abbrev pub later_by : ℕ → Option ℕ → Option ℕ
later_by i None = None
later_by i (Some k) = Some (i + k)

-- i samples have passed, and what is left of the walk is the walk over the rest
pub record Walked (rs : List Room) (n : ℕ) (ps₀ : List ParameterInterpolator) (i : ℕ) (ps : List ParameterInterpolator) : Type 0 where
  pub most : i ≤ n
  pub same : (m : ℕ) → i + m ≡ n → first_outside rs (steps_of n ps₀) ≡ later_by i (first_outside rs (steps_of m ps))

module _ (rs : List Room) (n : ℕ) (ps₀ : List ParameterInterpolator) where
  by_none : (f : Option ℕ) → f ≡ later_by 0 f
  by_none None = refl
  by_none (Some k) = ap Some (omega arith)

  pub walked_start : Walked rs n ps₀ 0 ps₀
  walked_start = record { most = omega arith; same = λ m h. let e : m ≡ n = omega arith in rw e (by_none _) }

  module _ (i : ℕ) (ps : List ParameterInterpolator) (w : Walked rs n ps₀ i ps) where
    pub walked_end : n ≤ i → None ≡ first_outside rs (steps_of n ps₀)
    unfolding first_outside steps_of
    walked_end h = sym (w.same 0 (omega (arith, w.most)))

    pub walked_out : i < n → all_in rs (values (moved ps)) ≡ false → Some i ≡ first_outside rs (steps_of n ps₀)
    unfolding first_outside steps_of
    walked_out h l = sym (w.same (suc (n - suc i)) (omega arith) ∙ rw l (ap Some (omega arith)))

    by_one : (f : Option ℕ) → later_by i (later f) ≡ later_by (i + 1) f
    by_one None = refl
    by_one (Some k) = ap Some (omega arith)

    pub walked_more : i < n → (ps' : List ParameterInterpolator) → moved ps ≡ ps' → all_in rs (values ps') ≡ true → Walked rs n ps₀ (i + 1) ps'
    unfolding first_outside steps_of
    walked_more h ps' e l = record { most = omega arith; same = λ m q. w.same (suc m) (omega arith) ∙ rw (e, l) (by_one (first_outside rs (steps_of m ps'))) }
