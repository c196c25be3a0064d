-- `classic::sample::naive_sample` meets its contract: each arm is the definition's. Assumes nothing.
use Rattle.std.proofs.Common.{rules}
use Rattle.classic.specs.Sample.{naive}
use Rattle.classic.proofs.sample.naive_sample.Goals as goal

pub returns-in-ImpulseTrain : goal.returns-in-ImpulseTrain
unfolding naive
returns-in-ImpulseTrain c = search rules

pub returns-in-Triangle : goal.returns-in-Triangle
unfolding naive
returns-in-Triangle c = search rules

pub returns-in-Slope : goal.returns-in-Slope
unfolding naive
returns-in-Slope c = search rules

pub returns-in_default : goal.returns-in_default
unfolding naive
returns-in_default c = search rules
