-- The loop around the two crossings, for any width from 0 to below 1 and whatever a rise and a fall do to the samples: it leaves by its own break in its
-- first or second turn, with the phase below 1, after at most two rises and one fall. Assumes nothing.
use Rattle.std.proofs.Common.{◌≡◌, ℕ, suc, ◌+◌, ◌-◌, ◌*◌, ◌≤◌, Bool, true, false, cond, not, ◌&&◌, ◌⊎◌, sym, refl, ap, ◌∙◌, subst, inl, inr, ⊎_elim, true≢false, arith}
use borrow.Author.Tests.{not-true, not-false}
use lib.Ieee.{Float, lt}
use Rattle.floats.specs.F32.{one32}
use Rattle.floats.proofs.Ticks.{tick, cycle, one_at, top_sum_at, wrap_1}
use Rattle.floats.proofs.At.{At}
use Rattle.floats.proofs.Ranges.{Under, UpTo, under_of, upto_of, passed_lt, failed_lt, passes_lt}
use Rattle.edges.specs.declared.Edge.{Edge}
use Rattle.block.specs.Counting.{one_if}
use Rattle.edges.specs.Counted.{is_late}
use Rattle.edges.specs.CrossingLoop.{turns, crossing_loop, Crosses, Starts}
use Rattle.edges.specs.Private.{Crossable}
use Rattle.edges.proofs.Totals.{every_rise, every_fall, rose_more, fell_more}

-- what is counted, late or not, from a slave that was high or low
pub record Counted (high : Bool) (r : Edge) : Type 0 where
  pub rises : every_rise r.crossings ≤ 2
  pub falls : every_fall r.crossings ≤ 1
  pub balance : every_rise r.crossings + one_if high ≡ every_fall r.crossings + one_if r.high

-- and the phase that the loop leaves
pub record Crossed (high : Bool) (r : Edge) : Type 0 where
  pub phase : Under r.phase cycle
  pub counted : Counted high r

-- the loop of x, and k turns of it
abbrev pub looped : Crosses → Edge → Edge
looped x e = crossing_loop x.width x.rise x.fall e

abbrev pub turns_of : Crosses → ℕ → Edge → Edge
turns_of x k e = turns k x.width x.rise x.fall e

-- whether a turn more can follow: not where the phase lies below 1
abbrev pub again : Edge → ℕ
again e = cond (lt e.phase one32) 0 1

-- the loop has come from e₀ to e, and `more` turns may follow this one
pub record Going (x : Crosses) (e₀ e : Edge) : Type 0 where
  pub narrow : Under x.width cycle
  pub more : ℕ
  pub same : turns_of x (suc more) e ≡ looped x e₀
  pub last : more ≡ 0 → lt e.phase one32 ≡ true
  pub phase : UpTo e.phase (21233664 * tick)
  pub rises : every_rise e.crossings + more ≤ 1
  pub falls : every_fall e.crossings + more ≤ 1
  pub balance : every_rise e.crossings + one_if e₀.high ≡ every_fall e.crossings + one_if e.high

-- r is e after the first half of a turn that does not stop there
pub record Risen (x : Crosses) (e r : Edge) : Type 0 where
  pub goes : (not e.high && lt e.phase x.width) ≡ false
  pub is : r ≡ cond e.high e (x.rise e)

pub going_start : {x : Crosses} {e : Edge} → Crossable x.width e → Going x e e
going_start {x} {e} h = record {
  narrow = h.narrow;
  more = 1;
  same = refl;
  last = λ z. absurd (omega arith);
  phase = h.phase;
  rises = rw h.none (omega arith);
  falls = rw h.none (omega arith);
  balance = rw h.none refl;
}

-- the two ways through that half
module _ {x : Crosses} {e r : Edge} where
  pub stays_high : not e.high ≡ false → r ≡ e → Risen x e r
  stays_high h q = let k = not-false e.high h in record { goes = rw k; is = q ∙ rw k }

  pub rises_low : not e.high ≡ true → lt e.phase x.width ≡ false → r ≡ x.rise e → Risen x e r
  rises_low h l q = let k = not-true e.high h in record { goes = rw (k, l); is = q ∙ rw k }

-- and a way that stops in it
pub stop_low : (x : Crosses) (e : Edge) (k : ℕ) → not e.high ≡ true → lt e.phase x.width ≡ true → turns_of x (suc k) e ≡ e
unfolding turns
stop_low x e k h l = rw (not-true e.high h, l)

module _ {x : Crosses} {e r : Edge} (w : Risen x e r) where
  pub stop_high : (k : ℕ) → lt r.phase one32 ≡ true → turns_of x (suc k) e ≡ r
  unfolding turns
  stop_high k l = rw (w.goes, ← w.is, l)

  pub turn_on : (k : ℕ) → lt r.phase one32 ≡ false → turns_of x (suc k) e ≡ turns_of x k (x.fall r)
  unfolding turns
  turn_on k l = rw (w.goes, ← w.is, l)

  pub same_phase : r.phase ≡ e.phase
  same_phase = rw w.is (go e.high)
    where
      go : (b : Bool) → (cond b e (x.rise e)).phase ≡ e.phase
      go true = refl
      go false = (x.rises e).phase

  pub now_high : r.high ≡ true
  now_high = rw w.is (go e.high refl)
    where
      go : (b : Bool) → e.high ≡ b → (cond b e (x.rise e)).high ≡ true
      go true h = h
      go false h = (x.rises e).high

  pub same_falls : every_fall r.crossings ≡ every_fall e.crossings
  same_falls = rw w.is (go e.high)
    where
      go : (b : Bool) → every_fall (cond b e (x.rise e)).crossings ≡ every_fall e.crossings
      go true = refl
      go false = rw (x.rises e).counts refl

  pub more_rises : every_rise e.crossings ≤ 1 → every_rise r.crossings + one_if e.high ≡ every_rise e.crossings + 1
  more_rises h = rw w.is (go e.high)
    where
      go : (b : Bool) → every_rise (cond b e (x.rise e)).crossings + one_if b ≡ every_rise e.crossings + 1
      go true = refl
      go false = rw (x.rises e).counts (omega (arith, rose_more (is_late e (x.rises e).t) e.crossings h))

  -- r is again below 1 exactly where e was
  pub same_test : {b : Bool} → lt r.phase one32 ≡ b → lt e.phase one32 ≡ b
  same_test l = ap (λ (p : Float). lt p one32) (sym same_phase) ∙ l

module _ {x : Crosses} {e₀ e : Edge} (g : Going x e₀ e) where
  -- the loop ends in the first half of a turn
  module _ (h : not e.high ≡ true) (l : lt e.phase x.width ≡ true) where
    pub ends_low : e ≡ looped x e₀
    ends_low = sym (stop_low x e g.more h l) ∙ g.same

    crossed_low : Crossed e₀.high e
    crossed_low = record {
      phase = record { n = g.phase.n; at = g.phase.at; under = omega (arith, passed_lt g.phase.at g.narrow.at l, g.narrow.under) };
      counted = record { rises = omega (arith, g.rises); falls = omega (arith, g.falls); balance = g.balance };
    }

  module _ {r : Edge} (w : Risen x e r) where
    few : every_rise e.crossings ≤ 1
    few = omega (arith, g.rises)

    reached : UpTo r.phase (21233664 * tick)
    reached = rw (same_phase w) g.phase

    balanced : every_rise r.crossings + one_if e₀.high ≡ every_fall r.crossings + 1
    balanced = omega (arith, g.balance, more_rises w few, same_falls w)

    -- or in the second
    module _ (l : lt r.phase one32 ≡ true) where
      pub ends_high : r ≡ looped x e₀
      ends_high = sym (stop_high w g.more l) ∙ g.same

      crossed_high : Crossed e₀.high r
      crossed_high = record {
        phase = record { n = reached.n; at = reached.at; under = passed_lt reached.at one_at l };
        counted = record {
          rises = omega (arith, more_rises w few, g.rises);
          falls = omega (arith, same_falls w, g.falls);
          balance = rw (now_high w) balanced;
        };
      }

    -- or it goes on, with a fall: only the first turn does
    module _ (l : lt r.phase one32 ≡ false) where
      not_last : g.more ≡ 0 → ⊥
      not_last z = absurd (true≢false (sym (g.last z) ∙ same_test w l))

      first : g.more ≡ 1
      first = omega (arith, g.rises, not_last)

      wrapped : At (x.fall r).phase (reached.n - cycle)
      wrapped = rw (x.falls r).phase (wrap_1 reached.at (failed_lt reached.at one_at l) (omega (arith, reached.most)))

      pub below_again : lt (x.fall r).phase one32 ≡ true
      below_again = passes_lt wrapped one_at (omega (arith, reached.most))

      no_fall : every_fall r.crossings ≡ 0
      no_fall = omega (arith, same_falls w, first, g.falls)

      pub one_fall : every_fall (x.fall r).crossings ≡ 1
      one_fall = rw (x.falls r).counts (omega (arith, fell_more (is_late r (x.falls r).t) r.crossings (omega (arith, no_fall)), no_fall))

      fall_goes : Going x e₀ (x.fall r)
      fall_goes = record {
        narrow = g.narrow;
        more = 0;
        same = sym (turn_on w 1 l) ∙ ap (λ (k : ℕ). turns_of x (suc k) e) (sym first) ∙ g.same;
        last = λ z. below_again;
        phase = record { n = reached.n - cycle; at = wrapped; most = omega (arith, reached.most) };
        rises = rw (x.falls r).counts (omega (arith, more_rises w few, first, g.rises));
        falls = omega (arith, one_fall);
        balance = rw ((x.falls r).high, one_fall) (rw (x.falls r).counts (omega (arith, balanced, no_fall)));
      }

      pub going_on : {f : Edge} → f ≡ x.fall r → Going x e₀ f
      going_on q = subst (Going x e₀) (sym q) fall_goes

-- however many turns may follow, e comes to r, and there the loop ends by its own break
record Ends (x : Crosses) (high : Bool) (e : Edge) : Type 0 where
  r : Edge
  same : (k : ℕ) → turns_of x (suc k) e ≡ r
  crossed : Crossed high r

-- or it goes on with f
record GoesOn (x : Crosses) (e₀ e : Edge) : Type 0 where
  f : Edge
  same : (k : ℕ) → turns_of x (suc k) e ≡ turns_of x k f
  going : Going x e₀ f
  was : lt e.phase one32 ≡ false
  is : lt f.phase one32 ≡ true

module _ {x : Crosses} {e₀ e : Edge} (g : Going x e₀ e) where
  second_half : {r : Edge} → Risen x e r → (b : Bool) → lt r.phase one32 ≡ b → Ends x e₀.high e ⊎ GoesOn x e₀ e
  second_half {r} w true l = inl (record { r = r; same = λ k. stop_high w k l; crossed = crossed_high g w l })
  second_half {r} w false l = inr (record { f = x.fall r; same = λ k. turn_on w k l; going = fall_goes g w l; was = same_test w l; is = below_again g w l })

  first_half : (b c : Bool) → not e.high ≡ b → lt e.phase x.width ≡ c → Ends x e₀.high e ⊎ GoesOn x e₀ e
  first_half false c h l = second_half (stays_high h refl) (lt e.phase one32) refl
  first_half true true h l = inl (record { r = e; same = λ k. stop_low x e k h l; crossed = crossed_low g h l })
  first_half true false h l = second_half (rises_low h l refl) (lt (x.rise e).phase one32) refl

  one_turn : Ends x e₀.high e ⊎ GoesOn x e₀ e
  one_turn = first_half (not e.high) (lt e.phase x.width) refl refl

-- the loop leaves by its own break: in the first turn, or in the second
pub record Ended (x : Crosses) (e : Edge) : Type 0 where
  pub r : Edge
  pub same : (j : ℕ) → turns_of x (suc (suc j)) e ≡ r
  pub crossed : Crossed e.high r

pub loop_ends : {x : Crosses} {e : Edge} → Crossable x.width e → Ended x e
loop_ends {x} {e} h = ⊎_elim in_one in_two (one_turn (going_start h))
  where
    in_one : Ends x e.high e → Ended x e
    in_one l = record { r = l.r; same = λ j. l.same (suc j); crossed = l.crossed }

    in_two : GoesOn x e e → Ended x e
    in_two o =
        ⊎_elim
        (λ (l : Ends x e.high o.f). record { r = l.r; same = λ j. o.same (suc j) ∙ l.same j; crossed = l.crossed })
        (λ (p : GoesOn x e o.f). absurd (true≢false (sym o.is ∙ p.was)))
        (one_turn o.going)

-- in a reader's words: more turns than two change nothing
pub two_turns : (x : Crosses) (e : Edge) → Starts x.width e → (k : ℕ) → turns (suc (suc k)) x.width x.rise x.fall e ≡ crossing_loop x.width x.rise x.fall e
two_turns x e s k =
    let h : Crossable x.width e =
    record { narrow = under_of s.width_fits s.width_from s.width_below one_at; phase = upto_of s.phase_fits s.phase_from s.phase_most top_sum_at; none = s.none } in
    let l = loop_ends {x = x} h in
    l.same k ∙ sym (l.same 0)

pub crossed_of : (x : Crosses) {e : Edge} → Crossable x.width e → Crossed e.high (looped x e)
crossed_of x {e} h = let l = loop_ends {x = x} h in subst (Crossed e.high) (sym (l.same 0)) l.crossed

-- the loop leaves at once where a high slave has not come to 1, and a low one not to its width
pub uncrossed : (x : Crosses) (e : Edge) (high : Bool) → e.high ≡ high → cond high (lt e.phase one32) (lt e.phase x.width) ≡ true → looped x e ≡ e
uncrossed x e true h l = stop_high {x = x} (stays_high (rw h) refl) 1 l
uncrossed x e false h l = stop_low x e 1 (rw h) l
