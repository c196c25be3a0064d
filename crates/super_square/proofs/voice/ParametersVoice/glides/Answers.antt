-- The super square's glides: both frequencies stand in the first places, and where both are safe no step leaves its room. Assumes nothing.
use Rattle.std.proofs.Common.{rules, refl}
use Rattle.block.proofs.Runs.{glides_moving, glides_safe}
use Rattle.super_square.specs.Private.{courses}
use Rattle.super_square.proofs.Courses.{presumed}
use Rattle.super_square.proofs.voice.ParametersVoice.glides.Goals as goal

pub returns-clause-moving : goal.returns-clause-moving
returns-clause-moving c = glides_moving c.args.n (courses c.args.state c.args.self.frequency c.args.self.shape) _ refl c.glides.ensures

pub returns-clause-safe : goal.returns-clause-safe
returns-clause-safe c =
    glides_safe c.args.n (courses c.args.state c.args.self.frequency c.args.self.shape) _ refl c.glides.ensures c.requires.short
    (presumed _ _ _ (search rules) (search rules) (search rules) (search rules) c.requires.valid c.requires.checked.1.0)
