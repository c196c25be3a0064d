-- `jobs::words::registration` meets its contract: its seven floats stand one after the other. Assumes nothing.
use Rattle.jobs.specs.Words.{floats_at}
use Rattle.jobs.proofs.words.registration.Goals as goal

pub returns : goal.returns
unfolding floats_at
returns c = cc
