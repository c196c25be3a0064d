-- binary32 in short: Rust's operators on `f32`, and the oscillators' constants, each written from its bit pattern.
-- The operators are IEEE 754-2019's, rounded once to nearest even: the kit's `lib.Ieee` defines them. Assumes nothing.
use Rattle.std.specs.Prelude.{ℕ, pos, Float}
use Rattle.std.specs.Float.Ieee as Ieee
use Rattle.std.specs.Float.{binary32}
use Rattle.std.specs.Float.Ieee.{of_bits}

infixl 75 ◌⊕◌
infixl 75 ◌⊖◌
infixl 80 ◌⊗◌
infixl 80 ◌⊘◌
abbrev pub ◌⊕◌ : Float → Float → Float
x ⊕ y = Ieee.add binary32 x y

abbrev pub ◌⊖◌ : Float → Float → Float
x ⊖ y = Ieee.sub binary32 x y

abbrev pub ◌⊗◌ : Float → Float → Float
x ⊗ y = Ieee.mul binary32 x y

abbrev pub ◌⊘◌ : Float → Float → Float
x ⊘ y = Ieee.div binary32 x y

-- the number that a bit pattern stands for; every NaN's pattern stands for the one `nan`
abbrev pub f32 : ℕ → Float
f32 b = of_bits binary32 b

-- Rust's `as f32` of a whole number, rounded once; up to 2^24 it is exact
abbrev pub whole32 : ℕ → Float
whole32 n = Ieee.of_int binary32 (pos n)

-- 0.0
abbrev pub zero32 : Float
zero32 = f32 0x0000_0000

-- -0.0
abbrev pub minus_zero32 : Float
minus_zero32 = f32 0x8000_0000

-- 0.000001, the source's MIN_FREQUENCY: oscillator.rs, line 14
abbrev pub min_frequency : Float
min_frequency = f32 0x3586_37bd

-- 0.25, the source's MAX_FREQUENCY: oscillator.rs, line 13
abbrev pub max_frequency : Float
max_frequency = f32 0x3e80_0000

-- 0.5
abbrev pub half32 : Float
half32 = f32 0x3f00_0000

-- 1.0
abbrev pub one32 : Float
one32 = f32 0x3f80_0000

-- 1.5
abbrev pub three_halves32 : Float
three_halves32 = f32 0x3fc0_0000

-- 2.0
abbrev pub two32 : Float
two32 = f32 0x4000_0000

-- 4.0
abbrev pub four32 : Float
four32 = f32 0x4080_0000

-- 8.0
abbrev pub eight32 : Float
eight32 = f32 0x4100_0000

-- 16.0
abbrev pub sixteen32 : Float
sixteen32 = f32 0x4180_0000

-- 17/64, 0.265625: the most that a frequency step may be
abbrev pub top_step : Float
top_step = f32 0x3e88_0000

-- 17/32, 0.53125: the most that a string's frequency step may be
abbrev pub top_string_step : Float
top_string_step = f32 0x3f08_0000

-- 81/64, 1.265625: the most that a phase below 1 and a step come to
abbrev pub top_sum : Float
top_sum = f32 0x3fa2_0000
