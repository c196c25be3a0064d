-- `jobs::read` meets its contract. Assumes nothing.
use Rattle.jobs.specs.Record.{job_of}
use Rattle.jobs.proofs.read.Goals as goal

pub returns : goal.returns
unfolding job_of
returns c = cc
