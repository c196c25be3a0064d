-- `bank::start` meets its contract: every kind starts from `init`. Assumes nothing.
use mathlib.Core.Path.{refl}
use Rattle.bank.proofs.start.Goals as goal

pub returns : goal.returns
returns c =
    rw (c.init.ensures, c.init-2.ensures, c.init-3.ensures, c.init-4.ensures, c.init-5.ensures, c.classic_start.ensures) refl
