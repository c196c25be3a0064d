-- `classic::edges_of::edges_of` meets its contract: each arm is the definition's. Assumes nothing.
use Rattle.std.proofs.Common.{rules}
use Rattle.classic.specs.Edges.{edges_of}
use Rattle.classic.proofs.edges_of.edges_of.Goals as goal

pub returns-in-ImpulseTrain : goal.returns-in-ImpulseTrain
unfolding edges_of
returns-in-ImpulseTrain c = search rules

pub returns-in-Triangle : goal.returns-in-Triangle
unfolding edges_of
returns-in-Triangle c = search rules

pub returns-in-Slope : goal.returns-in-Slope
unfolding edges_of
returns-in-Slope c = search rules

pub returns-in_default : goal.returns-in_default
unfolding edges_of
returns-in_default c = search rules
