-- `string_synth::sample::blep` meets its contract. Assumes nothing.
use Rattle.std.proofs.Common.{refl}
use Rattle.string_synth.specs.Sample.{blep_of}
use Rattle.string_synth.proofs.sample.blep.Goals as goal

pub returns : goal.returns
unfolding blep_of
returns c =
    let x = c.args in
    rw (c.this_blep_sample.ensures, c.next_blep_sample.ensures, c.nearest_u32_to_f32.ensures) (refl {a = blep_of x.e x.discontinuity x.frequency})
