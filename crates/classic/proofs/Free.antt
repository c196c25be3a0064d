-- The classic oscillator has no sync: whatever its edges are, nothing is late. Assumes nothing.
use Rattle.std.proofs.Common.{Bool, true, false, cond, List, get_or, refl}
use mathlib.Core.Bool.{xor}
use lib.Ieee.{Float, lt, le}
use Rattle.floats.specs.F32.{◌⊕◌, ◌⊖◌, ◌⊘◌, zero32, one32, two32}
use Rattle.block.specs.Limits.{NoneLate}
use Rattle.edges.specs.declared.Edge.{Edge}
use Rattle.edges.specs.Counted.{start_of}
use Rattle.edges.proofs.Totals.{NoReset}
use Rattle.classic.specs.declared.State.{State}
use Rattle.classic.specs.declared.OscillatorShape.{OscillatorShape}
use Rattle.classic.specs.declared.OscillatorShape.TheVariants.{ImpulseTrain, Saw, Triangle, Slope, Square, SquareBright, SquareDark, SquareTriangle}
use Rattle.classic.specs.Shapes.{width_of}
use Rattle.classic.specs.Edges.{saw_wrap, saw_edges, triangle_cross, triangle_at_width, triangle_wrap, triangle_edges, square_cross, square_at_width, square_wrap, square_edges, edges_of}
use Rattle.classic.specs.Sample.{finish, sample_of, sample_at}

-- whichever way a test goes
either : (b : Bool) {r e : Edge} → NoReset r → NoReset e → NoReset (cond b r e)
either true h k = h
either false h k = k

module _ (f w : Float) where
  saw_free : (e : Edge) → NoReset e → NoReset (saw_edges f e)
  unfolding saw_edges saw_wrap
  saw_free e h = either (le one32 e.phase) (record { free = h.free; rises = h.rises; falls = h.falls }) h

  triangle_free : (slopes : Float) (e : Edge) → NoReset e → NoReset (triangle_edges slopes f w e)
  unfolding triangle_edges triangle_at_width triangle_cross triangle_wrap
  triangle_free slopes e h =
      let k = either (xor e.high (lt e.phase w)) {r = triangle_cross slopes f w e} (record { free = h.free; rises = h.rises; falls = h.falls }) h in
      either (le one32 (triangle_at_width slopes f w e).phase) (record { free = k.free; rises = k.rises; falls = k.falls }) k

  square_free : (e : Edge) → NoReset e → NoReset (square_edges f w e)
  unfolding square_edges square_at_width square_cross square_wrap
  square_free e h =
      let k = either (xor e.high (le w e.phase)) {r = square_cross f w e} (record { free = h.free; rises = h.rises; falls = h.falls }) h in
      either (le one32 (square_at_width f w e).phase) (record { free = k.free; rises = k.rises; falls = k.falls }) k

edges_free : (shape : OscillatorShape) (f w : Float) (e : Edge) → NoReset e → NoReset (edges_of shape f w e)
unfolding edges_of
edges_free ImpulseTrain f w e h = saw_free f w e h
edges_free Saw f w e h = saw_free f w e h
edges_free Triangle f w e h = triangle_free f w (two32 ⊕ two32) e h
edges_free Slope f w e h = triangle_free f w (one32 ⊘ w ⊕ one32 ⊘ (one32 ⊖ w)) e h
edges_free Square f w e h = square_free f w e h
edges_free SquareBright f w e h = square_free f w e h
edges_free SquareDark f w e h = square_free f w e h
edges_free SquareTriangle f w e h = square_free f w e h

pub sample_heard : (shape : OscillatorShape) (s : State) (steps : List Float) (x : Float) → NoneLate (sample_at shape s steps x).counts
unfolding sample_of finish
sample_heard shape s steps x =
    let f = get_or steps 0 zero32 in
    let n = edges_free shape f (width_of shape (get_or steps 1 zero32)) (start_of (s.phase ⊕ f) s.high s.next_sample) (record { free = refl; rises = refl; falls = refl }) in
    record { rises = n.rises; falls = n.falls }
