-- Demand 3 and the counts of 01, for any oscillator that has the laws, and so for the six.
-- A cycle is 2^149 units and 2^-24 of it is 2^125; the string's cycle is 8 units of phase, 2^152, and 2^-24 of it is 2^128. Assumes nothing.
use mathlib.Core.Bool.{Bool}
use Prim.Native.Nat.{ℕ, ◌^◌}
use Rattle.floats.proofs.Ticks.{tick}
use Rattle.block.specs.Oscillator.{Oscillator}
use Rattle.block.proofs.Blocks.{Laws}
use Rattle.block.proofs.Oscillators.{answered_counts, samples_limited, call_balanced, call_neither, chain_accounted}
use Rattle.super_square.specs.Block.{super_square}
use Rattle.super_square.proofs.Phase as SuperSquare
use Rattle.variable_shape.specs.Block.{variable_shape}
use Rattle.variable_shape.proofs.Phase as Shape
use Rattle.variable_saw.specs.Block.{variable_saw}
use Rattle.variable_saw.proofs.Phase as Saw
use Rattle.nes_triangle.specs.Block.{nes_triangle}
use Rattle.nes_triangle.proofs.Phase as Nes
use Rattle.string_synth.specs.Block.{string_synth}
use Rattle.string_synth.proofs.Phase as String
use Rattle.classic.specs.Block.{classic as classic_oscillator}
use Rattle.classic.proofs.Phase as Classic
use Rattle.demands.specs.Demand3.{Demand3, Balance, NoFallsNorCuts}

pub demand3 : {S A : Type 0} {o : Oscillator S A} {Valid : A → S → Type 0} {w e : ℕ} → Laws o Valid w e → Demand3 o w e
demand3 l = record { chain = chain_accounted l; limits = samples_limited l; sum = answered_counts l }

-- the super square's phase is the master's
pub super_square_lem : Demand3 super_square (2 ^ 149) (2 ^ 125)
unfolding tick
super_square_lem = demand3 SuperSquare.laws

-- the variable shape's is the master's with sync and the slave's without; `sync` is one for the whole chain
pub variable_shape_lem : (sync : Bool) → Demand3 (variable_shape sync) (2 ^ 149) (2 ^ 125)
unfolding tick
variable_shape_lem sync = demand3 (Shape.laws sync)

-- the other four have one phase
pub variable_saw_lem : Demand3 variable_saw (2 ^ 149) (2 ^ 125)
unfolding tick
variable_saw_lem = demand3 Saw.laws

pub nes_triangle_lem : Demand3 nes_triangle (2 ^ 149) (2 ^ 125)
unfolding tick
nes_triangle_lem = demand3 Nes.laws

pub string_synth_lem : Demand3 string_synth (2 ^ 152) (2 ^ 128)
unfolding tick
string_synth_lem = demand3 String.laws

-- whichever shape each call of a chain has
pub classic : Demand3 classic_oscillator (2 ^ 149) (2 ^ 125)
unfolding tick
classic = demand3 Classic.laws

-- ---- rises, falls and cuts
pub super_square_balance : Balance super_square (λ s. s.high)
super_square_balance s f a = call_balanced SuperSquare.laws s f a (λ q. q.high) SuperSquare.sample_balanced

pub variable_shape_balance : (sync : Bool) → Balance (variable_shape sync) (λ s. s.high)
variable_shape_balance sync s f a = call_balanced (Shape.laws sync) s f a (λ q. q.high) (Shape.sample_balanced sync a.phase_output)

pub variable_saw_balance : Balance variable_saw (λ s. s.high)
variable_saw_balance s f a = call_balanced Saw.laws s f a (λ q. q.high) Saw.sample_balanced

pub classic_balance : Balance classic_oscillator (λ s. s.high)
classic_balance s f a = call_balanced Classic.laws s f a (λ q. q.high) (Classic.sample_balanced a.shape)

pub nes_triangle_neither : NoFallsNorCuts nes_triangle
nes_triangle_neither = call_neither nes_triangle (λ a. Nes.sample_neither a.bits)

pub string_synth_neither : NoFallsNorCuts string_synth
string_synth_neither = call_neither string_synth (λ a. String.sample_neither)
