-- Every figure of the table is met, by computation. Assumes nothing.
use mathlib.Core.Path.{◌≡◌, refl}
use lib.Ieee.{of_bits, to_bits, of_int, neg, add, sub, mul, div, lt, le, to_unsigned}
use Rattle.edges.specs.CrossingLoop.{turns}
use Rattle.edges.specs.Sync.{reset_of}
use Rattle.super_square.specs.Sample.{rise_of, fall_of, finish, reset_sample, plain_sample, sample_of}
use Rattle.variable_saw.specs.Sample as Saw
use Rattle.variable_shape.specs.Sample as Shape
use Rattle.variable_shape.specs.Waveform.{waveform_of}
use Rattle.figures.specs.Rows.{rows, answers, expectations}

pub figures : answers rows ≡ expectations rows
unfolding of_bits to_bits of_int neg add sub mul div lt le to_unsigned turns reset_of rise_of fall_of finish reset_sample plain_sample sample_of Saw.rise_of Saw.wrap_of Saw.finish Saw.sample_of Shape.rise_of Shape.fall_of Shape.finish Shape.plain_sample Shape.sample_of waveform_of
figures = refl
