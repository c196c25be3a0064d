-- 02 (iii), crossings past the reset, for the six: the fifth number, what 01 counted, and where nothing is late. 01's oscillators stand in proofs/In01 of those whose definition moved.
-- The other three count no crossing by its time: their samples' definitions only say that nothing is late. Assumes nothing.
use mathlib.Core.Path.{◌≡◌, refl}
use mathlib.Core.Bool.{Bool, false}
use lib.Ieee.{Float}
use mathlib.Core.List.{List}
use Rattle.block.specs.declared.Counts.{Counts}
use Rattle.block.specs.Counting.{late}
use Rattle.block.specs.Oscillator.{Oscillator}
use Rattle.block.specs.Limits.{NoneLate}
use Rattle.block.proofs.Oscillators.{late_whole, call_none_late}
use Rattle.super_square.specs.Block.{super_square}
use Rattle.super_square.proofs.Phase as SuperSquare
use Rattle.super_square.proofs.In01.{super_square01, as_in_01 as square-as-in-01}
use Rattle.variable_shape.specs.Block.{variable_shape}
use Rattle.variable_shape.proofs.Phase as Shape
use Rattle.variable_shape.proofs.Free as ShapeFree
use Rattle.variable_shape.proofs.In01.{variable_shape01, unchanged as shape-unchanged, as_in_01 as shape-as-in-01}
use Rattle.variable_saw.specs.Block.{variable_saw}
use Rattle.variable_saw.proofs.Phase as Saw
use Rattle.variable_saw.proofs.In01.{variable_saw01, sample_heard as saw-heard, as_in_01 as saw-as-in-01}
use Rattle.nes_triangle.specs.Block.{nes_triangle}
use Rattle.nes_triangle.proofs.Phase as Nes
use Rattle.string_synth.specs.Block.{string_synth}
use Rattle.string_synth.proofs.Phase as String
use Rattle.classic.specs.Block.{classic}
use Rattle.classic.proofs.Phase as Classic
use Rattle.classic.proofs.Free as ClassicFree
use Rattle.demands.specs.Late.{BothTogether, CountedIn01, SameAsIn01, NeverLate}

-- ---- the fifth number
pub super_square_together : BothTogether super_square
super_square_together = late_whole SuperSquare.laws

pub variable_shape_together : (sync : Bool) → BothTogether (variable_shape sync)
variable_shape_together sync = late_whole (Shape.laws sync)

pub variable_saw_together : BothTogether variable_saw
variable_saw_together = late_whole Saw.laws

pub nes_triangle_together : BothTogether nes_triangle
nes_triangle_together = late_whole Nes.laws

pub string_synth_together : BothTogether string_synth
string_synth_together = late_whole String.laws

pub classic_together : BothTogether classic
classic_together = late_whole Classic.laws

-- ---- what 01 counted
pub super_square_in_01 : CountedIn01 super_square01 super_square
super_square_in_01 = square-as-in-01

pub variable_shape_in_01 : (sync : Bool) → CountedIn01 (variable_shape01 sync) (variable_shape sync)
variable_shape_in_01 = shape-as-in-01

pub variable_shape_free_in_01 : SameAsIn01 (variable_shape01 false) (variable_shape false)
variable_shape_free_in_01 = shape-unchanged

pub variable_saw_in_01 : SameAsIn01 variable_saw01 variable_saw
variable_saw_in_01 = saw-as-in-01

-- ---- without sync nothing is late
none_told : {c : Counts} → NoneLate c → late c ≡ 0
none_told h = rw (h.rises, h.falls)

never_late : {S A : Type 0} (o : Oscillator S A) → ((a : A) (s : S) (steps : List Float) (x : Float) → NoneLate (o.sample a s steps x).counts) → NeverLate o
never_late o one = record { apart = call_none_late o one; told = λ s a. none_told (call_none_late o one s a) }

pub variable_shape_never_late : NeverLate (variable_shape false)
variable_shape_never_late = never_late (variable_shape false) (λ a. ShapeFree.sample_heard a.phase_output)

pub variable_saw_never_late : NeverLate variable_saw
variable_saw_never_late = never_late variable_saw (λ a. saw-heard)

pub nes_triangle_never_late : NeverLate nes_triangle
nes_triangle_never_late = never_late nes_triangle (λ a. Nes.sample_heard a.bits)

pub string_synth_never_late : NeverLate string_synth
string_synth_never_late = never_late string_synth (λ a. String.sample_heard)

pub classic_never_late : NeverLate classic
classic_never_late = never_late classic (λ a. ClassicFree.sample_heard a.shape)
