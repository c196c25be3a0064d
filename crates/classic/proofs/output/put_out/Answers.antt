-- `classic::output::put_out` meets its contract: each arm is the definition's. Assumes nothing.
use Rattle.std.proofs.Common.{rules}
use Rattle.classic.specs.Output.{square_dark, square_triangle, output_of}
use Rattle.classic.proofs.output.put_out.Goals as goal

pub returns-in-ImpulseTrain : goal.returns-in-ImpulseTrain
unfolding output_of
returns-in-ImpulseTrain c = search rules

pub returns-in-SquareBright : goal.returns-in-SquareBright
unfolding output_of
returns-in-SquareBright c = search rules

pub returns-in-SquareDark : goal.returns-in-SquareDark
unfolding square_dark output_of
returns-in-SquareDark c = search rules

pub returns-in-SquareTriangle : goal.returns-in-SquareTriangle
unfolding square_triangle output_of
returns-in-SquareTriangle c = search rules

pub returns-in_default : goal.returns-in_default
unfolding output_of
returns-in_default c = search rules
