-- What the edges of a sample leave, whichever the shape: the phase is wrapped where it came to 1, and the sides are counted, a rise and a fall at most. Assumes nothing.
use Rattle.std.proofs.Common.{◌≡◌, ◌+◌, ◌≤◌, Bool, true, false, cond, refl, lit≤}
use mathlib.Core.Bool.{xor}
use lib.Ieee.{Float, lt, le}
use Rattle.floats.specs.F32.{◌⊕◌, ◌⊖◌, ◌⊘◌, one32, two32}
use Rattle.block.specs.Counting.{one_if}
use Rattle.edges.specs.declared.Edge.{Edge}
use Rattle.edges.specs.Counted.{start_of}
use Rattle.edges.proofs.Totals.{every_rise, every_fall}
use Rattle.classic.specs.declared.OscillatorShape.{OscillatorShape}
use Rattle.classic.specs.declared.OscillatorShape.TheVariants.{ImpulseTrain, Saw, Triangle, Slope, Square, SquareBright, SquareDark, SquareTriangle}
use Rattle.classic.specs.Edges.{saw_wrap, saw_edges, triangle_cross, triangle_at_width, triangle_wrap, triangle_edges, square_cross, square_at_width, square_wrap, square_edges, edges_of}

-- of a sample whose phase has come to p, and that was high or not
pub record Turned (p : Float) (high : Bool) (e : Edge) : Type 0 where
  pub phase : e.phase ≡ cond (le one32 p) (p ⊖ one32) p
  pub rises : every_rise e.crossings ≤ 1
  pub falls : every_fall e.crossings ≤ 1
  pub balance : every_rise e.crossings + one_if high ≡ every_fall e.crossings + one_if e.high

-- ImpulseTrain and Saw
module _ (f : Float) (p x : Float) where
  saw_turn : (high : Bool) → Turned p high (saw_edges f (start_of p high x))
  unfolding saw_edges saw_wrap
  saw_turn high = go (le one32 p) refl
    where
      go : (o : Bool) → le one32 p ≡ o → Turned p high (saw_edges f (start_of p high x))
      go true at-o = rw at-o (record { phase = rw at-o; rises = lit≤ tt; falls = lit≤ tt; balance = refl })
      go false at-o = rw at-o (record { phase = rw at-o; rises = lit≤ tt; falls = lit≤ tt; balance = refl })

-- Triangle and Slope
module _ (slopes f w : Float) (p x : Float) where
  triangle_turn : (high : Bool) → Turned p high (triangle_edges slopes f w (start_of p high x))
  unfolding triangle_edges triangle_at_width triangle_cross triangle_wrap xor
  triangle_turn high = go high (lt p w) (le one32 p) refl refl
    where
      go : (high y o : Bool) → lt p w ≡ y → le one32 p ≡ o → Turned p high (triangle_edges slopes f w (start_of p high x))
      go true true true at_y at-o = rw (at_y, at-o) (record { phase = rw at-o; rises = lit≤ tt; falls = lit≤ tt; balance = refl })
      go true true false at_y at-o = rw (at_y, at-o) (record { phase = rw at-o; rises = lit≤ tt; falls = lit≤ tt; balance = refl })
      go true false true at_y at-o = rw (at_y, at-o) (record { phase = rw at-o; rises = lit≤ tt; falls = lit≤ tt; balance = refl })
      go true false false at_y at-o = rw (at_y, at-o) (record { phase = rw at-o; rises = lit≤ tt; falls = lit≤ tt; balance = refl })
      go false true true at_y at-o = rw (at_y, at-o) (record { phase = rw at-o; rises = lit≤ tt; falls = lit≤ tt; balance = refl })
      go false true false at_y at-o = rw (at_y, at-o) (record { phase = rw at-o; rises = lit≤ tt; falls = lit≤ tt; balance = refl })
      go false false true at_y at-o = rw (at_y, at-o) (record { phase = rw at-o; rises = lit≤ tt; falls = lit≤ tt; balance = refl })
      go false false false at_y at-o = rw (at_y, at-o) (record { phase = rw at-o; rises = lit≤ tt; falls = lit≤ tt; balance = refl })

-- the squares
module _ (f w : Float) (p x : Float) where
  square_turn : (high : Bool) → Turned p high (square_edges f w (start_of p high x))
  unfolding square_edges square_at_width square_cross square_wrap xor
  square_turn high = go high (le w p) (le one32 p) refl refl
    where
      go : (high y o : Bool) → le w p ≡ y → le one32 p ≡ o → Turned p high (square_edges f w (start_of p high x))
      go true true true at_y at-o = rw (at_y, at-o) (record { phase = rw at-o; rises = lit≤ tt; falls = lit≤ tt; balance = refl })
      go true true false at_y at-o = rw (at_y, at-o) (record { phase = rw at-o; rises = lit≤ tt; falls = lit≤ tt; balance = refl })
      go true false true at_y at-o = rw (at_y, at-o) (record { phase = rw at-o; rises = lit≤ tt; falls = lit≤ tt; balance = refl })
      go true false false at_y at-o = rw (at_y, at-o) (record { phase = rw at-o; rises = lit≤ tt; falls = lit≤ tt; balance = refl })
      go false true true at_y at-o = rw (at_y, at-o) (record { phase = rw at-o; rises = lit≤ tt; falls = lit≤ tt; balance = refl })
      go false true false at_y at-o = rw (at_y, at-o) (record { phase = rw at-o; rises = lit≤ tt; falls = lit≤ tt; balance = refl })
      go false false true at_y at-o = rw (at_y, at-o) (record { phase = rw at-o; rises = lit≤ tt; falls = lit≤ tt; balance = refl })
      go false false false at_y at-o = rw (at_y, at-o) (record { phase = rw at-o; rises = lit≤ tt; falls = lit≤ tt; balance = refl })

pub edges_turn : (shape : OscillatorShape) (f w p x : Float) (high : Bool) → Turned p high (edges_of shape f w (start_of p high x))
unfolding edges_of
edges_turn ImpulseTrain f w p x high = saw_turn f p x high
edges_turn Saw f w p x high = saw_turn f p x high
edges_turn Triangle f w p x high = triangle_turn (two32 ⊕ two32) f w p x high
edges_turn Slope f w p x high = triangle_turn (one32 ⊘ w ⊕ one32 ⊘ (one32 ⊖ w)) f w p x high
edges_turn Square f w p x high = square_turn f w p x high
edges_turn SquareBright f w p x high = square_turn f w p x high
edges_turn SquareDark f w p x high = square_turn f w p x high
edges_turn SquareTriangle f w p x high = square_turn f w p x high
