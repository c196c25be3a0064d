-- What is promised of the classic oscillator by shape. Assumes nothing.
use mathlib.Core.Path.{◌≡◌, refl}
use mathlib.Core.Bool.{true}
use mathlib.Core.List.{List, [], ◌∷◌}
use native.Mathlib.Omega.{arith}
use lib.ListN.{get_or}
use lib.Ieee.{Float, le}
use Rattle.std.specs.Prelude.{Some}
use Rattle.floats.specs.F32.{◌⊕◌, zero32, one32}
use Rattle.floats.proofs.Bools.{cond_both}
use Rattle.ranges.specs.Ranges.{unit_in}
use Rattle.rooms.specs.Steps.{first_outside}
use Rattle.block.specs.declared.Counts.{Counts}
use Rattle.block.specs.Counting.{no_counts, plus}
use Rattle.block.specs.declared.sample.Sample.{Sample}
use Rattle.block.specs.Play.{play}
use Rattle.block.specs.Calls.{Call}
use Rattle.block.specs.Checks.{here, later}
use Rattle.block.specs.Oscillator.{call_of, steps_in, Way, refused, drifted, answered}
use Rattle.block.proofs.Ways.{way, by_ways}
use Rattle.edges.specs.declared.Edge.{Edge}
use Rattle.edges.specs.Counted.{start_of}
use Rattle.classic.specs.declared.State.{State}
use Rattle.classic.specs.declared.OscillatorShape.{OscillatorShape}
use Rattle.classic.specs.declared.OscillatorShape.TheVariants.{ImpulseTrain, Saw, Triangle, SquareTriangle}
use Rattle.classic.specs.Edges.{saw_wrap, saw_edges, edges_of}
use Rattle.classic.specs.Sample.{finish, sample_of, sample_at}
use Rattle.classic.specs.Block.{Arguments, parameters_in, rooms, classic}
use Rattle.classic.proofs.Phase.{laws}
use Rattle.demands.specs.Classic.{EachCall, NoSides, NoCuts, WidthKept, FactorsKept, DriftsByFrequency, WidthUnread}

-- ---- what every sample keeps, every call keeps: P of a state and of what was counted up to it
play_keeps : {S : Type 0} (make : S → List Float → Float → Sample S) (P : S → Counts → Type 0)
    → ((s : S) (c : Counts) (steps : List Float) (x : Float) → P s c → P (make s steps x).state (plus c (make s steps x).counts))
    → (steps : List (List Float)) (xs : List Float) (s : S) (c : Counts) → P s c → (let h = play make s c steps xs in P h.state h.counts)
unfolding play
play_keeps make P one [] xs s c p = p
play_keeps make P one (steps ∷ rest) [] s c p = p
play_keeps make P one (steps ∷ rest) (x ∷ xs) s c p = play_keeps make P one rest xs _ _ (one s c steps x p)

call_keeps : (s : State) (a : Arguments) (P : State → Counts → Type 0)
    → ((q : State) (c : Counts) (steps : List Float) (x : Float) → P q c → (let t = sample_at a.shape q steps x in P t.state (plus c t.counts)))
    → P s no_counts → P (call_of classic s a).state (call_of classic s a).counts
call_keeps s a P one p =
    by_ways classic s a (laws.ordered s a) (λ (c : Call State). P c.state c.counts) (λ number index h. p)
    (λ q h. play_keeps (sample_at a.shape) P one (steps_in classic s a) a.buffer s no_counts p)

-- ---- every shape
pub no_cuts : (shape : OscillatorShape) → EachCall shape NoCuts
unfolding sample_of finish
no_cuts shape s frequency pw xs = call_keeps s _ (NoCuts s) (λ q c steps x p. record { cuts = rw p.cuts }) (record { cuts = refl })

pub factors_kept : (shape : OscillatorShape) → EachCall shape FactorsKept
unfolding sample_of finish
factors_kept shape s frequency pw xs = call_keeps s _ (FactorsKept s) (λ q c steps x p. record { coefficient = p.coefficient; gain = p.gain }) (record { coefficient = refl; gain = refl })

-- ---- ImpulseTrain and Saw
saw_sides : (f : Float) (e : Edge) → ((saw_edges f e).high ≡ e.high) × ((saw_edges f e).crossings ≡ e.crossings)
unfolding saw_edges saw_wrap
saw_sides f e = cond_both (λ (d : Edge). (d.high ≡ e.high) × (d.crossings ≡ e.crossings)) (le one32 e.phase) _ _ (refl, refl) (refl, refl)

-- of a shape whose edges are the saw's
module _ (shape : OscillatorShape) (same : (f w : Float) (e : Edge) → edges_of shape f w e ≡ saw_edges f e) where
  no_sides : EachCall shape NoSides
  unfolding sample_of finish
  no_sides s frequency pw xs = call_keeps s _ (NoSides s) one (record { rises = refl; falls = refl; high = refl })
    where
      one : (q : State) (c : Counts) (steps : List Float) (x : Float) → NoSides s q c → (let t = sample_at shape q steps x in NoSides s t.state (plus c t.counts))
      one q c steps x p =
          let f = get_or steps 0 zero32 in
          let e = start_of (q.phase ⊕ f) q.high q.next_sample in
          let k = saw_sides f e in
          record { rises = rw (same, k.1) (omega (arith, p.rises)); falls = rw (same, k.1) (omega (arith, p.falls)); high = rw (same, k.0) p.high }

pub impulse_train_no_sides : EachCall ImpulseTrain NoSides
unfolding edges_of
impulse_train_no_sides = no_sides ImpulseTrain (λ f w e. refl)

pub saw_no_sides : EachCall Saw NoSides
unfolding edges_of
saw_no_sides = no_sides Saw (λ f w e. refl)

-- ---- Triangle and SquareTriangle
pub triangle_width_kept : EachCall Triangle WidthKept
unfolding sample_of finish
triangle_width_kept s frequency pw xs = call_keeps s _ (WidthKept s) (λ q c steps x p. record { pw = p.pw }) (record { pw = refl })

pub square_triangle_width_kept : EachCall SquareTriangle WidthKept
unfolding sample_of finish
square_triangle_width_kept s frequency pw xs = call_keeps s _ (WidthKept s) (λ q c steps x p. record { pw = p.pw }) (record { pw = refl })

-- a call of a shape that does not step the width is refused with 6 for the frequency alone
module _ (s : State) (frequency pw : Float) (shape : OscillatorShape) (xs : List Float) where
  abbrev call : Arguments
  call = record { frequency = frequency; pw = pw; shape = shape; buffer = xs }

  drifting : {c : Call State} → Way classic s call c → c.number ≡ 6 → first_outside (rooms shape) (steps_in classic s call) ≡ Some c.index
  drifting (refused (here h)) e = absurd (omega (arith, e))
  drifting (refused (later g (here h))) e = absurd (omega (arith, e))
  drifting (refused (later f (later g (here h)))) e = absurd (omega (arith, e))
  drifting (refused {k = k} (later f (later g (later _ x)))) e = elim x [ ]
  drifting (drifted p h) e = h
  drifting (answered p h) e = absurd (omega (arith, e))

pub triangle_drifts : DriftsByFrequency Triangle
triangle_drifts s frequency pw xs = drifting s frequency pw Triangle xs (way classic s _)

pub square_triangle_drifts : DriftsByFrequency SquareTriangle
square_triangle_drifts s frequency pw xs = drifting s frequency pw SquareTriangle xs (way classic s _)

-- whichever width is asked for
parameters_same : (frequency pw other : Float) → unit_in pw ≡ true → unit_in other ≡ true → parameters_in frequency pw ≡ parameters_in frequency other
unfolding parameters_in
parameters_same frequency pw other h k = rw (h, k)

pub triangle_width_unread : WidthUnread Triangle
unfolding call_of
triangle_width_unread s frequency pw other xs h k = rw (parameters_same frequency pw other h k)

pub square_triangle_width_unread : WidthUnread SquareTriangle
unfolding call_of
square_triangle_width_unread s frequency pw other xs h k = rw (parameters_same frequency pw other h k)
