-- Every public function's contract, as the kit reads it, determines its outcome. Assumes nothing.
use borrow.Fn.Kinds.{ended_of}
use mathlib.Core.Path.{refl, ap}
use Rattle.floats.specs.Tightness.{Determines}
use Rattle.floats.proofs.Tightness.{coincide}
use Rattle.block.specs.Calls.{Call}
use Rattle.block.proofs.Contracts.{same_outcome}
use Rattle.bank.specs.declared.Bank.{Bank}
use Rattle.bank.specs.Lent.{Handed}
use Rattle.bank.proofs.start
use Rattle.bank.proofs.play

pub start_tight : Determines (ended_of _ start.Kinds.ps start.Kinds.r) start.Reads.Learnt
start_tight κs a r q v w h k = (coincide h k, refl)

-- answer, bank and buffer: what is handed back is what a call gives, whose state is the bank
as_gave : Handed → Call Bank
as_gave h = record { number = h.outcome.answer; index = h.outcome.drift; state = h.bank; counts = h.outcome.counts; samples = h.buffer }

pub play_tight : Determines (ended_of _ play.Kinds.ps play.Kinds.r) play.Reads.Learnt
unfolding as_gave
play_tight κs a r q v w h k = let o = same_outcome r q _ _ _ _ (ap as_gave (coincide h k)) in (o.0, rw (o.1, o.2))
