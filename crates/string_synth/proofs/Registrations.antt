-- The gains that the places of a registration give, in plain values. Assumes nothing.
use Rattle.std.proofs.Common.{◌≡◌, List}
use lib.Ieee.{Float}
use Rattle.floats.specs.F32.{◌⊕◌, ◌⊖◌, ◌⊗◌, two32, eight32}
use Rattle.string_synth.specs.declared.targets.Octave.{Octave}
use Rattle.string_synth.specs.Targets.{lowered, placed_at, gain_between, targets_of}

-- the targets, from the parts
pub targets_is : (frequency : Float) (unshifted : List Float) (gain : Float) (o : Octave) (r0 r1 r2 r3 r4 r5 r6 g4 g2 : Float) → o ≡ lowered (frequency ⊗ eight32)
    → r0 ≡ placed_at unshifted o.shift 0 → r1 ≡ placed_at unshifted o.shift 1 → r2 ≡ placed_at unshifted o.shift 2 → r3 ≡ placed_at unshifted o.shift 3
    → r4 ≡ placed_at unshifted o.shift 4 → r5 ≡ placed_at unshifted o.shift 5 → r6 ≡ placed_at unshifted o.shift 6
    → g4 ≡ gain_between r2 r1 r3 gain → g2 ≡ gain_between r4 r3 r5 gain
    → record { frequency = o.frequency; saw_8_gain = (r0 ⊕ two32 ⊗ r1) ⊗ gain; saw_4_gain = g4; saw_2_gain = g2; saw_1_gain = (r6 ⊖ r5) ⊗ gain } ≡ targets_of frequency unshifted gain
unfolding targets_of
targets_is frequency unshifted gain o r0 r1 r2 r3 r4 r5 r6 g4 g2 at-o at-0 at_1 at_2 at-3 at_4 at_5 at-6 at-g4 at-g2 = rw (at-g4, at-g2, at-0, at_1, at_2, at-3, at_4, at_5, at-6, at-o)
