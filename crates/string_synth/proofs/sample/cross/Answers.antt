-- `string_synth::sample::cross` meets its contract. Assumes nothing.
use Rattle.std.proofs.Common.{refl}
use Rattle.string_synth.specs.Sample.{crossed}
use Rattle.string_synth.proofs.sample.cross.Goals as goal

pub returns : goal.returns
unfolding crossed
returns c =
    let x = c.args in
    rw (c.soften.ensures, c.discontinuity.ensures, c.one_if.ensures, c.wrap_phase.ensures, c.wrap_segment-segment.ensures) (refl {a = crossed x.s x.saws x.phase x.whole})
