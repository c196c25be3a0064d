-- The depth of a call of the NES triangle: nes_triangle_oscillator.rs, lines 37 to 45. Assumes nothing.
use Rattle.std.specs.Prelude.{ℕ, ◌-◌, ◌/◌, ◌^◌, Bool, cond, ◌&&◌, ◌==◌, nat_le, Float}
use Rattle.floats.specs.F32.{whole32, ◌⊘◌, two32, four32}
use Rattle.nes_triangle.specs.declared.depth.Depth.{Depth}

-- 01, "Parameters": `num_bits` 1 to 16
abbrev pub bits_in : ℕ → Bool
bits_in bits = nat_le 1 bits && nat_le bits 16

-- 01, "State": bits outside 1 to 16 are read as 16 for the test of a state's step
abbrev pub tested_bits : ℕ → ℕ
tested_bits bits = cond (bits_in bits) bits 16

-- line 39: the value that the falling half counts down from
abbrev pub top_of : ℕ → ℕ
top_of numSteps = cond (numSteps == 2) 2 (numSteps - 1)

-- lines 41 to 45
abbrev pub scale_of : ℕ → ℕ → Float
scale_of numSteps top = cond (numSteps == 2) two32 (four32 ⊘ whole32 (top - 1))

-- lines 37 to 45: all constants needed to scale the waveform and its discontinuities
unfoldable pub depth_of : ℕ → Depth
depth_of bits =
    let numSteps = 2 ^ bits in
    record {
      num_steps = numSteps;
      half = numSteps / 2;
      top = top_of numSteps;
      num_steps_f = whole32 numSteps;
      scale = scale_of numSteps (top_of numSteps);
    }
