-- A sample in which nothing happens: its edges leave it as it starts, and it counts nothing. Assumes nothing.
use Rattle.std.proofs.Common.{◌≡◌, true, false}
use borrow.Author.Tests.{not-true}
use lib.Ieee.{Float, le}
use Rattle.floats.specs.F32.{◌⊕◌, one32}
use Rattle.floats.proofs.Bools.{and_both}
use Rattle.block.specs.Counting.{no_counts}
use Rattle.block.specs.declared.sample.Sample.{Sample}
use Rattle.edges.specs.declared.Edge.{Edge}
use Rattle.edges.specs.Counted.{start_of}
use Rattle.classic.specs.declared.State.{State}
use Rattle.classic.specs.declared.OscillatorShape.{OscillatorShape}
use Rattle.classic.specs.declared.OscillatorShape.TheVariants.{ImpulseTrain, Saw, Triangle, Slope, Square, SquareBright, SquareDark, SquareTriangle}
use Rattle.classic.specs.Shapes.{width_of}
use Rattle.classic.specs.Edges.{saw_edges, triangle_at_width, triangle_edges, square_at_width, square_edges, edges_of}
use Rattle.classic.specs.Sample.{finish, sample_of}
use Rattle.classic.specs.Private.{turns_of, quiet_of}

edges_quiet : (shape : OscillatorShape) (f w : Float) (e : Edge) → turns_of shape e.high e.phase w ≡ false → le one32 e.phase ≡ false → edges_of shape f w e ≡ e
unfolding edges_of saw_edges triangle_edges triangle_at_width square_edges square_at_width
edges_quiet ImpulseTrain f w e t o = rw o
edges_quiet Saw f w e t o = rw o
edges_quiet Triangle f w e t o = rw (t, o)
edges_quiet Slope f w e t o = rw (t, o)
edges_quiet Square f w e t o = rw (t, o)
edges_quiet SquareBright f w e t o = rw (t, o)
edges_quiet SquareDark f w e t o = rw (t, o)
edges_quiet SquareTriangle f w e t o = rw (t, o)

module _ (shape : OscillatorShape) (s : State) (frequency step : Float) (q : quiet_of shape s.high (s.phase ⊕ frequency) (width_of shape step) ≡ true) where
  pub sample_quiet : sample_of shape s frequency step ≡ finish shape s frequency step 0 (start_of (s.phase ⊕ frequency) s.high s.next_sample)
  unfolding sample_of
  sample_quiet =
      let n = and_both _ _ q in
      let wraps = not-true (le one32 (s.phase ⊕ frequency)) n.1 in
      rw (edges_quiet shape frequency (width_of shape step) (start_of (s.phase ⊕ frequency) s.high s.next_sample) (not-true _ n.0) wraps, wraps)

  -- nothing is counted
  pub quiet_made : {t : Sample State} → t ≡ sample_of shape s frequency step → ◌≡◌ {A = Sample State} (record { state = t.state; sample = t.sample; counts = no_counts }) (record { state = t.state; sample = t.sample; counts = t.counts })
  unfolding finish
  quiet_made e = rw (e, sample_quiet)
