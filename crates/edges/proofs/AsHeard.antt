-- Today's crossings with the late ones added back are those that 01 counted: of one, of the loop around them, and of a sample with a reset. Assumes nothing.
use Rattle.std.proofs.Common.{◌≡◌, ℕ, zero, suc, ◌+◌, ◌≤◌, Bool, true, false, cond, not, ◌&&◌, None, sym, refl, ap, ◌∙◌, arith}
use lib.Ieee.{Float, lt}
use Rattle.floats.specs.F32.{one32}
use Rattle.block.proofs.Plays.{in_32}
use Rattle.edges.specs.declared.AtReset.{AtReset}
use Rattle.edges.specs.declared.Crossings.{Crossings}
use Rattle.edges.specs.declared.Edge.{Edge}
use Rattle.edges.specs.Counted.{is_late, no_crossings, rose, fell}
use Rattle.edges.specs.CrossingLoop.{turns, crossing_loop, Crosses}
use Rattle.edges.specs.Sync.{at_reset_of, cut_edge, reset_of}
use Rattle.edges.proofs.Totals.{every_rise, every_fall, rose_more, fell_more}
use Rattle.edges.proofs.CrossingLoop.{looped}
use Rattle.edges.proofs.In01.{rose01, fell_if01, reset_of01}

abbrev pub crossings_as_heard : Crossings → Crossings
crossings_as_heard c = record { rises = every_rise c; falls = every_fall c; late_rises = 0; late_falls = 0 }

-- the edge, with the late ones added back and its reset forgotten
abbrev pub edge_as_heard : Edge → Edge
edge_as_heard e = record {
  phase = e.phase;
  high = e.high;
  this_sample = e.this_sample;
  next_sample = e.next_sample;
  reset = None;
  crossings = crossings_as_heard e.crossings;
}

pub rose_as_heard : (late : Bool) (c : Crossings) → every_rise c ≤ 1 → rose01 (crossings_as_heard c) ≡ crossings_as_heard (rose late c)
rose_as_heard late c h = ap (λ (n : ℕ). record { rises = n; falls = every_fall c; late_rises = 0; late_falls = 0 }) (in_32 (every_rise c + 1) (omega (arith, h)) ∙ sym (rose_more late c h))

pub fell_as_heard : (late : Bool) (c : Crossings) → every_fall c ≤ 1 → fell_if01 true (crossings_as_heard c) ≡ crossings_as_heard (fell late c)
fell_as_heard late c h = ap (λ (n : ℕ). record { rises = every_rise c; falls = n; late_rises = 0; late_falls = 0 }) (in_32 (every_fall c + 1) (omega (arith, h)) ∙ sym (fell_more late c h))

-- a rise and a fall as 01 had them, of the oscillator that crosses by x
pub record In01 (x : Crosses) : Type 0 where
  pub rise : Edge → Edge
  pub fall : Edge → Edge
  pub rises : (e : Edge) → every_rise e.crossings ≤ 1 → rise (edge_as_heard e) ≡ edge_as_heard (x.rise e)
  pub falls : (e : Edge) → every_fall e.crossings ≤ 1 → fall (edge_as_heard e) ≡ edge_as_heard (x.fall e)

-- n crossings of each kind at most
record Most (n : ℕ) (e : Edge) : Type 0 where
  rises : every_rise e.crossings ≤ n
  falls : every_fall e.crossings ≤ n

module _ (x : Crosses) (y : In01 x) where
  -- the first half of a turn, and the second
  abbrev risen : Edge → Edge
  risen e = cond e.high e (x.rise e)

  risen_as_heard : (e : Edge) → every_rise e.crossings ≤ 1 → cond e.high (edge_as_heard e) (y.rise (edge_as_heard e)) ≡ edge_as_heard (risen e)
  risen_as_heard e h = go e.high
    where
      go : (b : Bool) → cond b (edge_as_heard e) (y.rise (edge_as_heard e)) ≡ edge_as_heard (cond b e (x.rise e))
      go true = refl
      go false = y.rises e h

  risen_most : (n : ℕ) (e : Edge) → n ≤ 1 → Most n e → (every_rise (risen e).crossings ≤ n + 1) × (every_fall (risen e).crossings ≤ n)
  risen_most n e h m = go e.high
    where
      go : (b : Bool) → (every_rise (cond b e (x.rise e)).crossings ≤ n + 1) × (every_fall (cond b e (x.rise e)).crossings ≤ n)
      go true = (omega (arith, m.rises), m.falls)
      go false = rw (x.rises e).counts (omega (arith, rose_more (is_late e (x.rises e).t) e.crossings (omega (arith, m.rises)), m.rises), m.falls)

  fallen_most : (n : ℕ) (r : Edge) → n ≤ 1 → every_rise r.crossings ≤ n + 1 → every_fall r.crossings ≤ n → Most (n + 1) (x.fall r)
  fallen_most n r h up down = record {
    rises = rw (x.falls r).counts up;
    falls = rw (x.falls r).counts (omega (arith, fell_more (is_late r (x.falls r).t) r.crossings (omega (arith, down)), down));
  }

  -- what follows a fall, as 01 had it and today
  abbrev old : ℕ → Edge → Edge
  old k r = turns k x.width y.rise y.fall (y.fall r)

  abbrev new : ℕ → Edge → Edge
  new k r = turns k x.width x.rise x.fall (x.fall r)

  second_half : (k : ℕ) (r : Edge) {q : Edge} → q ≡ edge_as_heard r → old k (edge_as_heard r) ≡ edge_as_heard (new k r)
      → cond (lt q.phase one32) q (old k q) ≡ edge_as_heard (cond (lt r.phase one32) r (new k r))
  second_half k r p more = rw p (go (lt r.phase one32))
    where
      go : (b : Bool) → cond b (edge_as_heard r) (old k (edge_as_heard r)) ≡ edge_as_heard (cond b r (new k r))
      go true = refl
      go false = more

  one_turn : (k : ℕ) (e r : Edge) {q : Edge} → q ≡ edge_as_heard r → old k (edge_as_heard r) ≡ edge_as_heard (new k r)
      → (b : Bool) → cond b (edge_as_heard e) (cond (lt q.phase one32) q (old k q)) ≡ edge_as_heard (cond b e (cond (lt r.phase one32) r (new k r)))
  one_turn k e r p more true = refl
  one_turn k e r p more false = second_half k r p more

  turns_as_heard : (k n : ℕ) (e : Edge) → n + k ≤ 2 → Most n e → turns k x.width y.rise y.fall (edge_as_heard e) ≡ edge_as_heard (turns k x.width x.rise x.fall e)
  unfolding turns
  turns_as_heard zero n e h m = refl
  turns_as_heard (suc k) n e h m =
      let r = risen e in
      let s = risen_most n e (omega arith) m in
      let more = turns_as_heard k (n + 1) (x.fall r) (omega arith) (fallen_most n r (omega arith) s.0 s.1) in
      one_turn k e r (risen_as_heard e (omega (arith, m.rises))) (rw (y.falls r (omega (arith, s.1))) more) (not e.high && lt e.phase x.width)

  -- from an edge that has crossed nothing yet
  pub loop_as_heard : (e : Edge) → e.crossings ≡ no_crossings → crossing_loop x.width y.rise y.fall (edge_as_heard e) ≡ edge_as_heard (looped x e)
  loop_as_heard e z = turns_as_heard 2 0 e (omega arith) (record { rises = rw z (omega arith); falls = rw z (omega arith) })

  -- and with a reset
  pub reset_as_heard : (naive : Float → Float) (slavePhase slaveFrequency time : Float) (e : Edge) → e.crossings ≡ no_crossings
      → reset_of01 x.width naive (crossing_loop x.width y.rise y.fall) slavePhase slaveFrequency time (edge_as_heard e) ≡ edge_as_heard (reset_of x.width naive (looped x) slavePhase slaveFrequency time e)
  unfolding reset_of reset_of01
  reset_as_heard naive slavePhase slaveFrequency time e z = go found.transition
    where
      found : AtReset
      found = at_reset_of slavePhase e.high slaveFrequency x.width time

      cut : Edge
      cut = cut_edge (naive found.slave_phase) time e

      go : (b : Bool) → cond b (crossing_loop x.width y.rise y.fall (edge_as_heard cut)) (edge_as_heard cut) ≡ edge_as_heard (cond b (looped x cut) cut)
      go true = loop_as_heard cut z
      go false = refl
