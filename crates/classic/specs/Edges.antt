-- What a sample of the classic oscillator crosses: oscillator.rs, lines 115 to 195, in its order. Assumes nothing.
use Rattle.std.specs.Prelude.{◌+◌, ◌%◌, ◌^◌, Bool, true, false, cond, not, ◌&&◌, Float}
use Rattle.std.specs.Bool.{xor}
use Rattle.std.specs.Float.Ieee.{lt, le}
use Rattle.floats.specs.F32.{◌⊕◌, ◌⊖◌, ◌⊗◌, ◌⊘◌, one32, two32}
use Rattle.polyblep.specs.Polyblep.{this_blep_sample, next_blep_sample, this_integrated_blep_sample, next_integrated_blep_sample}
use Rattle.block.specs.Counting.{one_if}
use Rattle.edges.specs.declared.Crossings.{Crossings}
use Rattle.edges.specs.declared.Edge.{Edge}
use Rattle.classic.specs.declared.OscillatorShape.{OscillatorShape}
use Rattle.classic.specs.declared.OscillatorShape.TheVariants.{ImpulseTrain, Saw, Triangle, Slope, Square, SquareBright, SquareDark, SquareTriangle}

-- 01: "each time `high` turns true or false by a crossing", here by whichever line sets it. 32 bits hold the numbers, and a sample has one of each at most. It has no reset: none is late.
abbrev pub changed : Bool → Bool → Crossings → Crossings
changed before after c = record {
  rises = (c.rises + one_if (not before && after)) % 2 ^ 32;
  falls = (c.falls + one_if (before && not after)) % 2 ^ 32;
  late_rises = c.late_rises;
  late_falls = c.late_falls;
}

-- e with its phase, `high` and samples as they are set
abbrev pub turned : Float → Bool → Float → Float → Edge → Edge
turned phase high thisSample next_sample e = record {
  phase = phase;
  high = high;
  this_sample = thisSample;
  next_sample = next_sample;
  reset = e.reset;
  crossings = changed e.high high e.crossings;
}

-- ---- ImpulseTrain and Saw
-- lines 116 to 119: `high` stays, and nothing is crossed
unfoldable pub saw_wrap : Float → Edge → Edge
saw_wrap frequency e =
    let phase' = e.phase ⊖ one32 in
    let t = phase' ⊘ frequency in
    record {
      phase = phase';
      high = e.high;
      this_sample = e.this_sample ⊖ this_blep_sample t;
      next_sample = e.next_sample ⊖ next_blep_sample t;
      reset = e.reset;
      crossings = e.crossings;
    }

-- line 115
unfoldable pub saw_edges : Float → Edge → Edge
saw_edges frequency e = cond (le one32 e.phase) (saw_wrap frequency e) e

-- ---- Triangle and Slope, of the sum of both slopes; `high` is before the width
-- lines 145 to 152
unfoldable pub triangle_cross : Float → Float → Float → Edge → Edge
triangle_cross slopes frequency pw e =
    let t = (e.phase ⊖ pw) ⊘ frequency in
    let discontinuity = slopes ⊗ frequency in
    turned e.phase (lt e.phase pw)
    (e.this_sample ⊖ this_integrated_blep_sample t ⊗ discontinuity)
    (e.next_sample ⊖ next_integrated_blep_sample t ⊗ discontinuity)
    e

-- line 144
unfoldable pub triangle_at_width : Float → Float → Float → Edge → Edge
triangle_at_width slopes frequency pw e = cond (xor e.high (lt e.phase pw)) (triangle_cross slopes frequency pw e) e

-- lines 155 to 160
unfoldable pub triangle_wrap : Float → Float → Edge → Edge
triangle_wrap slopes frequency e =
    let phase' = e.phase ⊖ one32 in
    let t = phase' ⊘ frequency in
    let discontinuity = slopes ⊗ frequency in
    turned phase' true
    (e.this_sample ⊕ this_integrated_blep_sample t ⊗ discontinuity)
    (e.next_sample ⊕ next_integrated_blep_sample t ⊗ discontinuity)
    e

-- the width, and then line 154
unfoldable pub triangle_edges : Float → Float → Float → Edge → Edge
triangle_edges slopes frequency pw e =
    let c = triangle_at_width slopes frequency pw e in
    cond (le one32 c.phase) (triangle_wrap slopes frequency c) c

-- ---- the squares; `high` is from the width on
-- lines 181 to 188
unfoldable pub square_cross : Float → Float → Edge → Edge
square_cross frequency pw e =
    let t = (e.phase ⊖ pw) ⊘ frequency in
    let discontinuity = one32 in
    turned e.phase (le pw e.phase)
    (e.this_sample ⊕ this_blep_sample t ⊗ discontinuity)
    (e.next_sample ⊕ next_blep_sample t ⊗ discontinuity)
    e

-- line 180
unfoldable pub square_at_width : Float → Float → Edge → Edge
square_at_width frequency pw e = cond (xor e.high (le pw e.phase)) (square_cross frequency pw e) e

-- lines 191 to 195
unfoldable pub square_wrap : Float → Edge → Edge
square_wrap frequency e =
    let phase' = e.phase ⊖ one32 in
    let t = phase' ⊘ frequency in
    turned phase' false (e.this_sample ⊖ this_blep_sample t) (e.next_sample ⊖ next_blep_sample t) e

-- the width, and then line 190
unfoldable pub square_edges : Float → Float → Edge → Edge
square_edges frequency pw e =
    let c = square_at_width frequency pw e in
    cond (le one32 c.phase) (square_wrap frequency c) c

-- ---- line 113: the triangle's slopes are 2.0 and 2.0, a slope's 1.0 / pw and 1.0 / (1.0 - pw), lines 138 to 143
unfoldable pub edges_of : OscillatorShape → Float → Float → Edge → Edge
edges_of ImpulseTrain frequency pw e = saw_edges frequency e
edges_of Saw frequency pw e = saw_edges frequency e
edges_of Triangle frequency pw e = triangle_edges (two32 ⊕ two32) frequency pw e
edges_of Slope frequency pw e = triangle_edges (one32 ⊘ pw ⊕ one32 ⊘ (one32 ⊖ pw)) frequency pw e
edges_of Square frequency pw e = square_edges frequency pw e
edges_of SquareBright frequency pw e = square_edges frequency pw e
edges_of SquareDark frequency pw e = square_edges frequency pw e
edges_of SquareTriangle frequency pw e = square_edges frequency pw e
