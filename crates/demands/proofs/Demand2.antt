-- Demand 2, for any oscillator that has the laws, and so for the six. Assumes nothing.
use mathlib.Core.Bool.{Bool}
use Prim.Native.Nat.{ℕ}
use Rattle.block.specs.Oscillator.{Oscillator}
use Rattle.block.proofs.Blocks.{Laws}
use Rattle.block.proofs.Oscillators.{answered_samples}
use Rattle.super_square.specs.Block.{super_square}
use Rattle.super_square.proofs.Phase as SuperSquare
use Rattle.variable_shape.specs.Block.{variable_shape}
use Rattle.variable_shape.proofs.Phase as Shape
use Rattle.variable_saw.specs.Block.{variable_saw}
use Rattle.variable_saw.proofs.Phase as Saw
use Rattle.nes_triangle.specs.Block.{nes_triangle}
use Rattle.nes_triangle.proofs.Phase as Nes
use Rattle.string_synth.specs.Block.{string_synth}
use Rattle.string_synth.proofs.Phase as String
use Rattle.classic.specs.Block.{classic as classic_oscillator}
use Rattle.classic.proofs.Phase as Classic
use Rattle.demands.specs.Demand2.{Demand2}

pub demand2 : {S A : Type 0} {o : Oscillator S A} {Valid : A → S → Type 0} {w e : ℕ} → Laws o Valid w e → Demand2 o
demand2 l = answered_samples l

pub super_square_lem : Demand2 super_square
super_square_lem = demand2 SuperSquare.laws

pub variable_shape_lem : (sync : Bool) → Demand2 (variable_shape sync)
variable_shape_lem sync = demand2 (Shape.laws sync)

pub variable_saw_lem : Demand2 variable_saw
variable_saw_lem = demand2 Saw.laws

pub nes_triangle_lem : Demand2 nes_triangle
nes_triangle_lem = demand2 Nes.laws

pub string_synth_lem : Demand2 string_synth
string_synth_lem = demand2 String.laws

pub classic : Demand2 classic_oscillator
classic = demand2 Classic.laws
