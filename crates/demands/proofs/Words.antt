-- What is promised over words, for the six. Assumes nothing.
use mathlib.Core.Path.{◌≡◌, refl}
use mathlib.Core.Bool.{Bool, true, false, cond}
use mathlib.Core.Logic.{inr}
use mathlib.Core.List.{List, []}
use Prim.Native.Nat.{ℕ, ◌≤◌, ◌<◌}
use native.Mathlib.Omega.{arith}
use borrow.Author.Tests.{lt-ltb}
use lib.Dec.{eqb, leb}
use lib.ListN.{length, get_or, get_or-eq_default}
use lib.Ieee.{Float}
use Rattle.std.specs.Prelude.{None}
use Rattle.floats.proofs.Bools.{cond_both}
use Rattle.block.specs.Calls.{refusal}
use Rattle.block.specs.Oscillator.{Oscillator, call_of}
use Rattle.super_square.specs.Block.{super_square}
use Rattle.variable_shape.specs.Block.{variable_shape}
use Rattle.variable_saw.specs.Block.{variable_saw}
use Rattle.nes_triangle.specs.Block.{nes_triangle}
use Rattle.string_synth.specs.Block.{string_synth}
use Rattle.words.specs.Face.{Face, face_of, no_bool, refused_face, no_state, AnsweredOrKept}
use Rattle.words.proofs.Faces.{answered_or_kept, empty_face, returned_first}
use Rattle.super_square_face.specs.Words as SuperSquare
use Rattle.variable_shape_face.specs.Words as Shape
use Rattle.variable_saw_face.specs.Words as Saw
use Rattle.nes_triangle_face.specs.Words as Nes
use Rattle.nes_triangle_face.proofs.BadWords.{negative_step}
use Rattle.string_synth_face.specs.Words as String
use Rattle.string_synth_face.proofs.BadWords.{negative_segment}
use Rattle.classic.specs.Shapes.{in_order, numbered}
use Rattle.classic.specs.State.{initial_state}
use Rattle.classic.specs.Start.{sample_rate_in}
use Rattle.classic.specs.Block.{state_in, classic}
use Rattle.classic_face.specs.Words as Classic
use Rattle.classic_face.proofs.Calls as ClassicCalls
use Rattle.demands.specs.Words.{Rendering, BadBool, Negative, Kept, Returned}

-- ---- a word for a bool that is neither 0 nor 1
pub super_square_bad_bool : (frequency shape : Float) → BadBool 3 (λ w. SuperSquare.render_face w frequency shape)
super_square_bad_bool frequency shape w xs h = rw (lt-ltb _ _ h)

pub variable_shape_bad_bool : (masterFrequency frequency pw waveshape phaseModulation : Float) (sync phaseOutput : Bool)
    → BadBool 4 (λ w. Shape.render_face w masterFrequency frequency pw waveshape phaseModulation sync phaseOutput)
variable_shape_bad_bool masterFrequency frequency pw waveshape phaseModulation sync phaseOutput w xs h = rw (lt-ltb _ _ h)

pub variable_saw_bad_bool : (frequency pw waveshape : Float) → BadBool 3 (λ w. Saw.render_face w frequency pw waveshape)
variable_saw_bad_bool frequency pw waveshape w xs h = rw (lt-ltb _ _ h)

pub nes_triangle_bad_bool : (frequency : Float) (bits : ℕ) → BadBool 3 (λ w. Nes.render_face w frequency bits)
nes_triangle_bad_bool frequency bits w xs h = rw (lt-ltb _ _ h)

pub classic_bad_bool : (frequency pw : Float) (shape : ℕ) → BadBool 4 (λ w. Classic.render_face w frequency pw shape)
classic_bad_bool frequency pw shape w xs h = rw (lt-ltb _ _ h)

-- ---- a negative number
pub nes_triangle_negative_step : (frequency : Float) (bits : ℕ) → Negative 2 (λ w. Nes.render_face w frequency bits)
nes_triangle_negative_step frequency bits w xs = negative_step w frequency bits xs

-- the string's registration is tested before its state: 2 where it has not seven entries
pub string_synth_negative_segment : (w : List ℕ) (frequency : Float) (registration : List Float) (gain : Float) (xs : List Float) → 0x8000_0000 ≤ get_or w 2 0
    → String.render_face w frequency registration gain xs ≡ refused_face (cond (leb (length xs) 4096) (cond (eqb (length registration) 7) 3 2) 1) 0 w xs
string_synth_negative_segment = negative_segment

-- ---- a number that no shape has: refused in the place of a bad parameter, after a block that is too long and a bad state
pub classic_no_shape : (w : List ℕ) (frequency pw : Float) (shape : ℕ) (xs : List Float) → 7 < shape
    → Classic.render_face w frequency pw shape xs ≡ refused_face (cond (leb (length xs) 4096) (cond (no_bool (get_or w 4 0)) 3 (cond (state_in (Classic.state_of w)) 4 3)) 1) 0 w xs
unfolding face_of
classic_no_shape w frequency pw shape xs h = rw none (go (leb (length xs) 4096) (no_bool (get_or w 4 0)) (state_in (Classic.state_of w)))
  where
    none : numbered shape ≡ None
    none = get_or-eq_default in_order None {n = shape} (omega (arith, h))

    go : (short bad fit : Bool)
        → cond bad (refused_face (cond short 3 1) 0 w xs) (face_of Classic.words_of w (refusal (cond short (cond fit 4 3) 1) 0 (Classic.state_of w) xs))
        ≡ refused_face (cond short (cond bad 3 (cond fit 4 3)) 1) 0 w xs
    go true true fit = refl
    go false true fit = refl
    go true false true = refl
    go true false false = refl
    go false false fit = refl

-- ---- a start at a sample rate: from any words, those of the initial state or, at a rate outside, the same ones
pub classic_init_done : (w : List ℕ) (rate : Float) → sample_rate_in rate ≡ true → Classic.init_face w rate ≡ record { words = Classic.words_of (initial_state rate); number = 0 }
unfolding Classic.start_of
classic_init_done w rate h = rw h

pub classic_init_kept : (w : List ℕ) (rate : Float) → sample_rate_in rate ≡ false → Classic.init_face w rate ≡ record { words = w; number = 4 }
unfolding Classic.start_of
classic_init_kept w rate h = rw h

-- ---- words that stay
-- of any oscillator's own call, put into words
called : {S A : Type 0} (o : Oscillator S A) (words_of : S → List ℕ) (state_of : List ℕ → S) (given : List Float → A) → ((xs : List Float) → o.buffer (given xs) ≡ xs)
    → Kept (λ w xs. face_of words_of w (call_of o (state_of w) (given xs)))
called o words_of state_of given same = record {
  refused = λ w xs. rw same at (answered_or_kept o words_of w (state_of w) (given xs));
  empty = λ w. empty_face o words_of w (state_of w) (given []) (same []);
}

-- of a face whose state has a bool: what holds of the oscillator's own call holds of words that are no state too
kept : (place : ℕ) {call : Rendering} → Kept call → Kept (λ w xs. cond (no_bool (get_or w place 0)) (no_state w xs) (call w xs))
kept place k = record {
  refused = λ w xs. cond_both (AnsweredOrKept w xs) (no_bool (get_or w place 0)) _ _ (inr refl) (k.refused w xs);
  empty = λ w. cond_both (λ (f : Face). f.words ≡ w) (no_bool (get_or w place 0)) _ _ refl (k.empty w);
}

pub super_square_kept : (frequency shape : Float) → Kept (λ w. SuperSquare.render_face w frequency shape)
super_square_kept frequency shape = kept 3 (called super_square SuperSquare.words_of SuperSquare.state_of _ (λ xs. refl))

pub variable_shape_kept : (masterFrequency frequency pw waveshape phaseModulation : Float) (sync phaseOutput : Bool)
    → Kept (λ w. Shape.render_face w masterFrequency frequency pw waveshape phaseModulation sync phaseOutput)
variable_shape_kept masterFrequency frequency pw waveshape phaseModulation sync phaseOutput =
    kept 4 (called (variable_shape sync) Shape.words_of Shape.state_of _ (λ xs. refl))

pub variable_saw_kept : (frequency pw waveshape : Float) → Kept (λ w. Saw.render_face w frequency pw waveshape)
variable_saw_kept frequency pw waveshape = kept 3 (called variable_saw Saw.words_of Saw.state_of _ (λ xs. refl))

pub nes_triangle_kept : (frequency : Float) (bits : ℕ) → Kept (λ w. Nes.render_face w frequency bits)
nes_triangle_kept frequency bits = kept 3 (called nes_triangle Nes.words_of Nes.state_of _ (λ xs. refl))

pub string_synth_kept : (frequency : Float) (registration : List Float) (gain : Float) → Kept (λ w. String.render_face w frequency registration gain)
string_synth_kept frequency registration gain = called string_synth String.words_of String.state_of _ (λ xs. refl)

-- of a shape's number, whether or not a shape has it
pub classic_kept : (frequency pw : Float) (shape : ℕ) → Kept (λ w. Classic.render_face w frequency pw shape)
classic_kept frequency pw shape =
    let named = numbered shape in
    let k = called classic Classic.words_of Classic.state_of (ClassicCalls.arguments_of named frequency pw) (ClassicCalls.same_buffer named frequency pw) in
    let l : Kept (λ w xs. face_of Classic.words_of w (Classic.called_of named (Classic.state_of w) frequency pw xs)) = record {
      refused = λ w xs. rw (ClassicCalls.called named (Classic.state_of w) frequency pw xs) (k.refused w xs);
      empty = λ w. rw (ClassicCalls.called named (Classic.state_of w) frequency pw []) (k.empty w);
    } in
    kept 4 l

-- ---- what is returned
pub super_square_returned : (frequency shape : Float) → Returned (λ w. SuperSquare.render_face w frequency shape)
super_square_returned frequency shape w xs = returned_first SuperSquare.words_of (no_bool (get_or w 3 0)) w xs _

pub variable_shape_returned : (masterFrequency frequency pw waveshape phaseModulation : Float) (sync phaseOutput : Bool)
    → Returned (λ w. Shape.render_face w masterFrequency frequency pw waveshape phaseModulation sync phaseOutput)
variable_shape_returned masterFrequency frequency pw waveshape phaseModulation sync phaseOutput w xs = returned_first Shape.words_of (no_bool (get_or w 4 0)) w xs _

pub variable_saw_returned : (frequency pw waveshape : Float) → Returned (λ w. Saw.render_face w frequency pw waveshape)
variable_saw_returned frequency pw waveshape w xs = returned_first Saw.words_of (no_bool (get_or w 3 0)) w xs _

pub nes_triangle_returned : (frequency : Float) (bits : ℕ) → Returned (λ w. Nes.render_face w frequency bits)
nes_triangle_returned frequency bits w xs = returned_first Nes.words_of (no_bool (get_or w 3 0)) w xs _

pub string_synth_returned : (frequency : Float) (registration : List Float) (gain : Float) → Returned (λ w. String.render_face w frequency registration gain)
string_synth_returned frequency registration gain w xs = returned_first String.words_of false w xs _

pub classic_returned : (frequency pw : Float) (shape : ℕ) → Returned (λ w. Classic.render_face w frequency pw shape)
classic_returned frequency pw shape w xs = returned_first Classic.words_of (no_bool (get_or w 4 0)) w xs _
