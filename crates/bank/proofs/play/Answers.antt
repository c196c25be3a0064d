-- `bank::play` meets its contract: a malformed record changes nothing, and any other is a call. Assumes nothing.
use Rattle.std.proofs.Common.{refl, sym}
use Rattle.bank.specs.Bank.{refused_record, record_played}
use Rattle.bank.proofs.Lending.{without_samples}
use Rattle.bank.proofs.play.Goals as goal

pub returns-in_default : goal.returns-in_default
unfolding record_played
returns-in_default c =
    let a = c.args in
    rw (← c.read-job.ensures, c.in_default.is) (sym (without_samples a.bank.now (refused_record a.bank.now) a.out.now refl))

pub returns : goal.returns
unfolding record_played
returns c = rw (← c.read-job.ensures, c.in-Some.is) c.on_silence.ensures
