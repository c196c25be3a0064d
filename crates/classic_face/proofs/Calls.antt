-- A call by a shape's number is one of the classic oscillator's own, also where no shape has the number. Assumes nothing.
use mathlib.Core.Path.{◌≡◌, refl, sym}
use mathlib.Core.Bool.{Bool, true, false}
use mathlib.Core.List.{List}
use lib.Dec.{leb}
use lib.ListN.{length}
use lib.Ieee.{Float, lt, le, neg, of_bits}
use Rattle.std.specs.Prelude.{Option, None, Some}
use Rattle.floats.specs.F32.{zero32}
use Rattle.ranges.specs.Ranges.{all_of}
use Rattle.block.specs.Checks.{checked}
use Rattle.block.specs.Oscillator.{call_of}
use Rattle.classic.specs.declared.State.{State}
use Rattle.classic.specs.declared.OscillatorShape.{OscillatorShape}
use Rattle.classic.specs.declared.OscillatorShape.TheVariants.{Saw}
use Rattle.classic.specs.Block.{Arguments, classic, state_in, parameters_in, render_of}
use Rattle.classic_face.specs.Words.{called_of}
use Rattle.classic_face.specs.Private.{parameters_of}

-- the arguments of that call: a frequency of 0 is refused as a bad parameter, whatever the shape
abbrev pub arguments_of : Option OscillatorShape → Float → Float → List Float → Arguments
arguments_of (Some shape) frequency pw xs = record { frequency = frequency; pw = pw; shape = shape; buffer = xs }
arguments_of None frequency pw xs = record { frequency = zero32; pw = pw; shape = Saw; buffer = xs }

pub same_buffer : (named : Option OscillatorShape) (frequency pw : Float) (xs : List Float) → (arguments_of named frequency pw xs).buffer ≡ xs
same_buffer (Some shape) frequency pw xs = refl
same_buffer None frequency pw xs = refl

zero_outside : (pw : Float) → parameters_in zero32 pw ≡ false
unfolding parameters_in all_of le lt neg of_bits
zero_outside pw = refl

pub called : (named : Option OscillatorShape) (s : State) (frequency pw : Float) (xs : List Float) → called_of named s frequency pw xs ≡ call_of classic s (arguments_of named frequency pw xs)
unfolding call_of checked
called (Some shape) s frequency pw xs = refl
called None s frequency pw xs = go (leb (length xs) 4096) (state_in s) refl refl
  where
    go : (short fit : Bool) → leb (length xs) 4096 ≡ short → state_in s ≡ fit → called_of None s frequency pw xs ≡ render_of s zero32 pw Saw xs
    go true true at-short at-fit = rw (at-short, at-fit, zero_outside pw)
    go true false at-short at-fit = rw (at-short, at-fit)
    go false fit at-short at-fit = rw at-short

-- and that call, by the parameters that the code makes
pub called_by : (named : Option OscillatorShape) (s : State) (frequency pw : Float) (xs : List Float)
    → (let p = parameters_of named frequency pw in render_of s p.frequency p.pw p.shape xs) ≡ called_of named s frequency pw xs
called_by (Some shape) s frequency pw xs = refl
called_by None s frequency pw xs = sym (called None s frequency pw xs)
