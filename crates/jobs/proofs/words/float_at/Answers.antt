-- `jobs::words::float_at` meets its contract. Assumes nothing.
use Rattle.jobs.specs.Words.{float_at}
use Rattle.jobs.proofs.words.float_at.Goals as goal

pub returns : goal.returns
unfolding float_at
returns c = cc
