-- `testing::turns::repeat` meets its contract. The loop's invariant: the turns so far have been taken, and after each more was to come. Assumes nothing.
use Rattle.testing.specs.Turns.{Taken}
use Rattle.testing.proofs.turns.repeat.Given as goal

abbrev pub invariant-loop : goal.invariant-loop
invariant-loop g l = goal.F-IsAlwaysCallable g l.turn × Taken (goal.F-step g) l.counter l.fn.turn l.turn
