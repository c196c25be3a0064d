-- `stems::sound::lay` meets its contract. The loop's invariant: the samples of the first `k` records are laid. Assumes nothing.
use Rattle.bank.specs.Bank.{init_bank}
use Rattle.render.specs.Lists.{records_from}
use Rattle.stems.specs.Sound.{sound_of}
use Rattle.stems.proofs.Laying.{Laying}
use Rattle.stems.proofs.sound.lay.Given as goal

abbrev pub invariant-loop-k : goal.invariant-loop-k
invariant-loop-k l = Laying (sound_of init_bank (records_from l.list 0 l.n)) l.list l.n l.initial.samples l.samples l.bank l.at l.k
