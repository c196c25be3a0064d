-- One turn of an oscillator's loop over a buffer, in the words of its code, for any oscillator. The interpolators stand in five places; those that have a room are used.
-- Assumes nothing.
use Rattle.std.proofs.Common.{◌≡◌, ℕ, suc, ◌+◌, ◌-◌, ◌<◌, ◌≤◌, List, [], ◌∷◌, length, get_or, take, drop, set, sym, refl, ap, ◌∙◌, append-nil, add-zero, add-one, arith, length-set, drop_of_length-le, take_all, drop-cons, take-suc-set, drop-set-lt}
use lib.Seq.{append_snoc}
use lib.Ieee.{Float, nan}
use Rattle.floats.specs.F32.{zero32}
use Rattle.parameter_interpolator.specs.declared.ParameterInterpolator.{ParameterInterpolator}
use Rattle.block.specs.declared.Counts.{Counts}
use Rattle.rooms.specs.declared.Room.{Room}
use Rattle.std.specs.Prelude.{None}
use Rattle.rooms.specs.Steps.{moved, values, steps_of, first_outside}
use Rattle.rooms.proofs.Places.{place}
use Rattle.rooms.proofs.Padding.{used, used_length, moved_length, moved_used, value_used}
use Rattle.block.specs.Counting.{no_counts, plus, modulo32}
use Rattle.block.specs.declared.sample.Sample.{Sample}
use Rattle.block.specs.Play.{play}
use Rattle.block.specs.Limits.{Few}
use Rattle.block.specs.Fit.{Playable, heard_from, Inside}
use Rattle.block.specs.Voices.{Kept, adding}
use Rattle.block.proofs.Plays.{few_none, few_more, few_fit, nowhere_first, after, Keeps, kept_by}

-- i samples are written, from the state s₀ and the interpolators ps₀ over the buffer out₀; what is left, after them, is the whole
pub record Turning {S : Type 0} (make : S → List Float → Float → Sample S) (rooms : List Room) (Holds : S → Type 0) (s₀ : S) (ps₀ : List ParameterInterpolator) (out₀ : List Float)
    (s : S) (ps : List ParameterInterpolator) (c : Counts) (out : List Float) (i : ℕ) : Type 0 where
  pub short : length out₀ ≤ 4096
  pub long : length out ≡ length out₀
  pub most : i ≤ length out₀
  pub same : (m : ℕ) → i + m ≡ length out₀
      → play make s₀ no_counts (steps_of (length out₀) (used rooms ps₀)) out₀ ≡ after (take i out) (play make s c (steps_of m (used rooms ps)) (drop i out))
  pub enough : length rooms ≤ length ps
  pub inside : (m : ℕ) → i + m ≡ length out₀ → first_outside rooms (steps_of m (used rooms ps)) ≡ None
  pub ok : Holds s
  pub few : Few i c

module _ {S : Type 0} {make : S → List Float → Float → Sample S} {rooms : List Room} {Holds : S → Type 0} {s₀ : S} {ps₀ : List ParameterInterpolator} {out₀ : List Float} where
  pub turning_start : {c : Counts} → length rooms ≤ length ps₀ → c ≡ no_counts → Playable Holds rooms s₀ (used rooms ps₀) out₀ → Turning make rooms Holds s₀ ps₀ out₀ s₀ ps₀ c out₀ 0
  turning_start l e h =
      rw e
      (record {
        short = h.fit.short;
        long = refl;
        most = omega arith;
        same = λ m q. let n : m ≡ length out₀ = omega arith in rw n;
        enough = l;
        inside = λ m q. let n : m ≡ length out₀ = omega arith in rw n h.inside;
        ok = h.fit.valid;
        few = few_none;
      })

  module _ {s : S} {ps : List ParameterInterpolator} {c : Counts} {out : List Float} {i : ℕ} (p : Turning make rooms Holds s₀ ps₀ out₀ s ps c out i) where
    pub turning_end : length out ≤ i → record { state = s; samples = out; counts = c } ≡ heard_from make s₀ (used rooms ps₀) out₀
    unfolding play steps_of
    turning_end h = sym (p.same 0 (omega (arith, p.long, p.most)) ∙ rw (take_all i out h, drop_of_length-le out h, append-nil))

    module _ (l : i < length out) {ps' : List ParameterInterpolator} (at_ps : ps' ≡ moved ps) where
      -- the value at a place is the step of the sample to come
      pub turning_place : (k : ℕ) → k < length rooms → (place ps' k).value ≡ get_or (values (used rooms ps')) k zero32
      turning_place k h = value_used rooms ps' k h (rw (at_ps, moved_length ps) p.enough)

      first : Inside rooms (values (used rooms ps')) × (first_outside rooms (steps_of (length out₀ - suc i) (used rooms ps')) ≡ None)
      first =
          rw (at_ps, ← moved_used rooms ps)
          (nowhere_first rooms (length out₀ - suc i) (used rooms ps) (used_length rooms ps p.enough) (p.inside (suc (length out₀ - suc i)) (omega (arith, p.long))))

      -- its steps lie in their rooms
      pub turning_inside : Inside rooms (values (used rooms ps'))
      turning_inside = first.0

      -- the sample is the definition's, and its counts are added up in 32 bits
      module _ {s' : S} {y : Float} {d k : Counts} (kept : Kept Holds (record { state = s'; sample = y; counts = d })) (at-k : k ≡ modulo32 (plus c d))
          (e : record { state = s'; sample = y; counts = d } ≡ make s (values (used rooms ps')) (get_or out i nan)) where
        one_more : (m : ℕ) → play make s c (steps_of (suc m) (used rooms ps)) (drop i out) ≡ after (y ∷ []) (play make s' (plus c d) (steps_of m (used rooms ps')) (drop (suc i) out))
        unfolding play steps_of
        one_more m =
            rw (moved_used rooms ps, ← at_ps)
            (ap (λ (xs : List Float). play make s c (values (used rooms ps') ∷ steps_of m (used rooms ps')) xs) (drop-cons out i nan l)
            ∙ ap (λ (u : Sample S). after (u.sample ∷ []) (play make u.state (plus c u.counts) (steps_of m (used rooms ps')) (drop (suc i) out))) (sym e))

        more : Few (i + 1) (plus c d)
        more = few_more p.few kept.few

        pub turning_more : Turning make rooms Holds s₀ ps₀ out₀ s' ps' k (set out i y) (i + 1)
        turning_more =
            rw (at-k, few_fit {i = i + 1} (omega (arith, p.short, p.long)) more)
            (record {
              short = p.short;
              long = simp length-set p.long;
              most = omega (arith, p.long);
              same = λ m q. p.same (suc m) (omega arith) ∙ ap (after (take i out)) (one_more m) ∙ rw (add-one, take-suc-set, drop-set-lt (suc i) out i _ (omega arith), append_snoc);
              enough = rw (at_ps, moved_length ps) p.enough;
              inside = λ m q. let g : m ≡ length out₀ - suc i = omega arith in rw g first.1;
              ok = kept.ok;
              few = more;
            })

      -- a sample that counts nothing leaves the counts as they are
      pub turning_quiet : Keeps make rooms Holds → {s' : S} {y : Float} → record { state = s'; sample = y; counts = no_counts } ≡ make s (values (used rooms ps')) (get_or out i nan)
          → Turning make rooms Holds s₀ ps₀ out₀ s' ps' c (set out i y) (i + 1)
      turning_quiet keeps e = turning_more (kept_by keeps p.ok turning_inside e) (sym (simp add-zero (few_fit {i = i} {c = c} (omega (arith, p.short, p.long)) p.few))) e

      -- so where the sample's counts are added to those so far
      pub turning_added : Kept Holds (make s (values (used rooms ps')) (get_or out i nan)) → {t : Sample S} → t ≡ adding c (make s (values (used rooms ps')) (get_or out i nan))
          → Turning make rooms Holds s₀ ps₀ out₀ t.state ps' t.counts (set out i t.sample) (i + 1)
      turning_added kept e = rw e (turning_more kept refl refl)
