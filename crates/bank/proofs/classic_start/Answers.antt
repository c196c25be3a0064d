-- `bank::classic_start` meets its contract: the sample rate is one that `init` takes. Assumes nothing.
use mathlib.Core.Path.{◌≡◌, refl, ap, ◌∙◌}
use lib.Ieee.{lt, le, neg, of_bits}
use Rattle.classic.specs.Start.{Start, started_at}
use Rattle.classic.specs.declared.State.{State}
use Rattle.classic.specs.State.{initial_state}
use Rattle.bank.specs.Bank.{sample_rate}
use Rattle.bank.proofs.classic_start.Goals as goal

-- 48,000 is at least 8,000 and at most 384,000, whatever state is given
answered : (s : State) → (started_at s sample_rate).state ≡ initial_state sample_rate
unfolding lt le neg of_bits
answered s = refl

pub returns : goal.returns
returns c = ap (λ (x : Start). x.state) c.init.ensures ∙ answered _
