-- Demand 1, for any oscillator that has the laws, and so for the six. Assumes nothing.
use mathlib.Core.Path.{◌≡◌, subst}
use mathlib.Core.Bool.{Bool, true}
use Prim.Native.Nat.{ℕ, ◌≤◌}
use lib.ListN.{length}
use lib.Ieee.{lt, le}
use Rattle.floats.specs.F32.{zero32, half32, one32, four32}
use Rattle.ranges.specs.Ranges.{within}
use Rattle.block.specs.Calls.{refusal}
use Rattle.block.specs.Oscillator.{Oscillator, call_of, Way}
use Rattle.block.proofs.Ways.{goes, way}
use Rattle.block.proofs.Blocks.{Laws}
use Rattle.block.proofs.Oscillators.{answered_or_as_given, answered_fit, empty_answered}
use Rattle.string_synth.specs.declared.State.{State}
use Rattle.super_square.specs.Block.{super_square}
use Rattle.super_square.proofs.Phase as SuperSquare
use Rattle.variable_shape.specs.Block.{variable_shape}
use Rattle.variable_shape.proofs.Phase as Shape
use Rattle.variable_saw.specs.Block.{variable_saw}
use Rattle.variable_saw.proofs.Phase as Saw
use Rattle.nes_triangle.specs.Block.{nes_triangle}
use Rattle.nes_triangle.proofs.Phase as Nes
use Rattle.string_synth.specs.Block.{state_in, registration_in, Arguments, string_synth}
use Rattle.string_synth.proofs.Phase as String
use Rattle.string_synth.proofs.Accepted.{too_high_is_5}
use Rattle.classic.specs.Block.{classic as classic_oscillator}
use Rattle.classic.proofs.Phase as Classic
use Rattle.demands.specs.Demand1.{Demand1}

pub demand1 : {S A : Type 0} {o : Oscillator S A} {Valid : A → S → Type 0} {w e : ℕ} → Laws o Valid w e → Demand1 o
demand1 {o = o} l = record {
  in_order = l.ordered;
  as_given = answered_or_as_given o;
  when = λ s a c. goes o s a;
  only_when = λ s a c e. subst (Way o s a) e (way o s a);
  done_only_when = answered_fit l;
  empty_done = empty_answered o;
}

pub super_square_lem : Demand1 super_square
super_square_lem = demand1 SuperSquare.laws

pub variable_shape_lem : (sync : Bool) → Demand1 (variable_shape sync)
variable_shape_lem sync = demand1 (Shape.laws sync)

pub variable_saw_lem : Demand1 variable_saw
variable_saw_lem = demand1 Saw.laws

pub nes_triangle_lem : Demand1 nes_triangle
nes_triangle_lem = demand1 Nes.laws

pub string_synth_lem : Demand1 string_synth
string_synth_lem = demand1 String.laws

pub classic : Demand1 classic_oscillator
classic = demand1 Classic.laws

-- "A string pitch too high has a number of its own": above 0.5 and at most 1 it is refused with 5, where nothing that is tested before it is unfit
pub string_too_high : (s : State) (a : Arguments) → length a.buffer ≤ 4096 → length a.registration ≡ 7 → state_in s ≡ true → registration_in a.registration ≡ true
    → within zero32 four32 a.gain ≡ true → lt half32 a.frequency ≡ true → le a.frequency one32 ≡ true → call_of string_synth s a ≡ refusal 5 0 s a.buffer
string_too_high = too_high_is_5
