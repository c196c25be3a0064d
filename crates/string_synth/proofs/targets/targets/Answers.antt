-- `string_synth::targets::targets` meets its contract. Assumes nothing.
use Rattle.std.proofs.Common.{lit<}
use Rattle.string_synth.proofs.Registrations.{targets_is}
use Rattle.string_synth.proofs.targets.targets.Goals as goal

pub returns-clause-made : goal.returns-clause-made
returns-clause-made c =
    let at = c.shifted-registration.ensures in
    targets_is _ _ _ _ _ _ _ _ _ _ _ _ _ c.lower-octave.ensures (at 0 (lit< tt)) (at 1 (lit< tt)) (at 2 (lit< tt)) (at 3 (lit< tt)) (at 4 (lit< tt)) (at 5 (lit< tt)) (at 6 (lit< tt))
    c.gain_between.ensures c.gain_between-2.ensures
