-- `wave::put` meets its contract: the header is copied, and the samples come after it. Assumes nothing.
use mathlib.Core.Path.{◌≡◌, ap, ◌∙◌}
use Prim.Native.Nat.{◌*◌}
use lib.ListN.{length}
use Rattle.wave.proofs.Putting.{header_long, headed, whole_stem}
use Rattle.wave.proofs.put.Goals as goal

pub returns : goal.returns
returns c =
    let a = c.args in
    let long : length c.header-header.result ≡ 44 = ap length c.header-header.ensures ∙ header_long a.rate (2 * length a.samples.now) in
    whole_stem a.rate a.samples.now a.out.now _ _ _ c.header-header.ensures c.requires.room (headed _ _ a.out.now c.copy_from_slice.ensures.after long) c.put_samples.ensures
