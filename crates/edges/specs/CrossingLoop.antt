-- The loop around the two crossings of a sample, which super_square_oscillator.rs (lines 98 to 119) and variable_shape_oscillator.rs
-- (lines 144 to 175) share: a low slave rises where its phase has come to the width, a high one falls where it has come to 1. Assumes nothing.
use Rattle.std.specs.Prelude.{◌≡◌, ℕ, zero, suc, true, false, cond, not, ◌&&◌, T, Float}
use Rattle.std.specs.Float.{binary32}
use Rattle.std.specs.Float.Ieee.{fits, lt, le}
use Rattle.floats.specs.F32.{◌⊖◌, zero32, one32, top_sum}
use Rattle.edges.specs.declared.Edge.{Edge}
use Rattle.edges.specs.Counted.{is_late, no_crossings, rose, fell}

-- k turns of the source's `loop` at most. It breaks where a low slave has not come to the width, and where a high one has not come to 1.
unfoldable pub turns : ℕ → Float → (Edge → Edge) → (Edge → Edge) → Edge → Edge
turns zero width rise fall e = e
turns (suc k) width rise fall e =
    cond (not e.high && lt e.phase width) e
    (let r = cond e.high e (rise e) in
    cond (lt r.phase one32) r (turns k width rise fall (fall r)))

-- Two turns are all it makes: `two_turns` in proofs/CrossingLoop shows that more change nothing, since it has then left by its own break.
abbrev pub crossing_loop : Float → (Edge → Edge) → (Edge → Edge) → Edge → Edge
crossing_loop width rise fall e = turns 2 width rise fall e

-- r is e after a rise, whatever that does to the samples: the phase stays, the slave is high, and one rise more is counted, late or not by its t
pub record Rises (e r : Edge) : Type 0 where
  pub t : Float
  pub phase : r.phase ≡ e.phase
  pub high : r.high ≡ true
  pub reset : r.reset ≡ e.reset
  pub counts : r.crossings ≡ rose (is_late e t) e.crossings

-- r is e after a fall: the phase has wrapped, the slave is low, and one fall more is counted, likewise
pub record Falls (e r : Edge) : Type 0 where
  pub t : Float
  pub phase : r.phase ≡ e.phase ⊖ one32
  pub high : r.high ≡ false
  pub reset : r.reset ≡ e.reset
  pub counts : r.crossings ≡ fell (is_late e t) e.crossings

-- what `two_turns` asks of an oscillator: the width that it rises at, a rise, and a fall
pub record Crosses : Type 0 where
  pub width : Float
  pub rise : Edge → Edge
  pub fall : Edge → Edge
  pub rises : (e : Edge) → Rises e (rise e)
  pub falls : (e : Edge) → Falls e (fall e)

-- what the loop starts from: the width at least 0 and below 1, the phase at least 0 and at most 81/64 (a phase below 1 and a step of at most 17/64), both
-- binary32 values, and nothing counted yet
pub record Starts (width : Float) (e : Edge) : Type 0 where
  pub width_fits : T (fits binary32 width)
  pub width_from : le zero32 width ≡ true
  pub width_below : lt width one32 ≡ true
  pub phase_fits : T (fits binary32 e.phase)
  pub phase_from : le zero32 e.phase ≡ true
  pub phase_most : le e.phase top_sum ≡ true
  pub none : e.crossings ≡ no_crossings
