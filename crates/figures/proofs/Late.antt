-- Every sample of the table of late crossings counts what it says, by computation. Assumes nothing.
use mathlib.Core.Path.{◌≡◌, refl}
use lib.Ieee.{of_bits, neg, add, sub, mul, div, lt, le}
use Rattle.edges.specs.CrossingLoop.{turns}
use Rattle.edges.specs.Sync.{reset_of}
use Rattle.super_square.specs.Sample as Square
use Rattle.variable_shape.specs.Sample as Shape
use Rattle.variable_shape.specs.Waveform.{waveform_of}
use Rattle.figures.specs.Rows.{answers, expectations}
use Rattle.figures.specs.LateRows.{late_rows}

pub late : answers late_rows ≡ expectations late_rows
unfolding of_bits neg add sub mul div lt le turns reset_of Square.rise_of Square.fall_of Square.finish Square.reset_sample Square.plain_sample Square.sample_of Shape.rise_of Shape.fall_of Shape.finish Shape.reset_sample Shape.plain_sample Shape.sample_of waveform_of
late = refl
