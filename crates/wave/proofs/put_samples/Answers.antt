-- `wave::put_samples` meets its contract: the loop puts sample by sample. Assumes nothing.
use mathlib.Core.Path.{◌≡◌, ◌∙◌}
use Prim.Native.Nat.{◌+◌, ◌*◌, ◌-◌}
use native.Mathlib.Omega.{arith}
use Rattle.wave.proofs.Putting.{put_start, put_more, put_end, number_bytes}
use Rattle.wave.proofs.put_samples.Goals as goal

pub loop-i-init : goal.loop-i-init
loop-i-init c = put_start _ _ c.requires.room

pub loop-i-preserved : goal.loop-i-preserved
loop-i-preserved c =
    let two : 2 * c.loop-i.i + 2 - 2 * c.loop-i.i ≡ 2 = omega arith in
    let bytes = c.copy_from_slice.ensures.after ∙ c.to_le_bytes.ensures ∙ number_bytes _ _ c.number.ensures in
    rw two (put_more _ _ _ _ c.loop-i.invariant _ _ c.loop-i-test.true bytes)

pub returns : goal.returns
returns c = put_end _ _ _ _ c.loop-i.invariant c.loop-i-test.false
