-- `string_synth::quiet::sample` meets its contract: under its test it is what the definition gives. Assumes nothing.
use Rattle.std.proofs.Common.{refl, arith}
use Rattle.string_synth.specs.Sample.{finish, sample_of}
use Rattle.string_synth.proofs.Stays.{held_segment, reach_quiet}
use Rattle.string_synth.proofs.quiet.sample.Goals as goal

pub returns-clause-made : goal.returns-clause-made
unfolding sample_of
returns-clause-made c =
    let p = c.requires in
    let v = p.valid in
    rw (c.finish.ensures, c.stay-e.ensures, held_segment v.segment (omega (arith, v.below)), reach_quiet _ _ c.args.saws v p.starts_of_segment p.segment_stays)

pub returns-clause-counts : goal.returns-clause-counts
unfolding finish
returns-clause-counts c = rw (c.finish.ensures, c.stay-e.ensures) refl
