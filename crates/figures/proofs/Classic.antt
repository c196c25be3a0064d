-- Every sample and start of the classic oscillator's table is met, by computation. Assumes nothing.
use mathlib.Core.Path.{◌≡◌, refl}
use lib.Ieee.{of_bits, to_bits, neg, add, sub, mul, div, lt, le}
use mathlib.Core.Bool.{xor}
use Rattle.classic.specs.Edges.{saw_wrap, saw_edges, triangle_cross, triangle_at_width, triangle_wrap, triangle_edges, square_cross, square_at_width, square_wrap, square_edges, edges_of}
use Rattle.classic.specs.Output.{impulse_train, square_bright, square_dark, square_triangle, output_of}
use Rattle.classic.specs.Sample.{naive, finish, sample_of}
use Rattle.figures.specs.Rows.{answers, expectations}
use Rattle.figures.specs.ClassicRows.{classic_rows}

pub classic : answers classic_rows ≡ expectations classic_rows
unfolding of_bits to_bits neg add sub mul div lt le xor saw_wrap saw_edges triangle_cross triangle_at_width triangle_wrap triangle_edges square_cross square_at_width square_wrap square_edges edges_of impulse_train square_bright square_dark square_triangle output_of naive finish sample_of
classic = refl
