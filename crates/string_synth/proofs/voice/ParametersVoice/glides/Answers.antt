-- The string synth's glides: the frequency and the four gains stand in the five places, and where all are safe no step leaves its room. Assumes nothing.
use Rattle.std.proofs.Common.{rules, refl, eqb-true}
use borrow.Author.Tests.{not-true}
use Rattle.block.proofs.Runs.{glides_moving, glides_safe}
use Rattle.string_synth.specs.Private.{courses}
use Rattle.string_synth.proofs.Courses.{presumed}
use Rattle.string_synth.proofs.voice.ParametersVoice.glides.Goals as goal

pub returns-clause-moving : goal.returns-clause-moving
returns-clause-moving c = rw (← c.targets.ensures.made) (glides_moving c.args.n (courses c.args.state c.targets.result) _ refl c.glides.ensures)

pub returns-clause-safe : goal.returns-clause-safe
returns-clause-safe c =
    rw (← c.targets.ensures.made)
    (glides_safe c.args.n (courses c.args.state c.targets.result) _ refl c.glides.ensures c.requires.short
    (presumed _ _ _ (search rules) c.targets.ensures.entries (search rules) (eqb-true _ _ c.requires.checked.0) c.requires.checked.1.1.0 (not-true _ c.requires.checked.1.1.1.0) _ _ (search rules) c.requires.valid c.targets.ensures.made))
