-- The NES triangle's glide: the frequency stands in the first place, and where it is safe no step leaves its room. Assumes nothing.
use Rattle.std.proofs.Common.{rules, refl}
use Rattle.block.proofs.Runs.{glides_moving, glides_safe}
use Rattle.nes_triangle.specs.Private.{courses}
use Rattle.nes_triangle.proofs.Courses.{presumed}
use Rattle.nes_triangle.proofs.voice.ParametersVoice.glides.Goals as goal

pub returns-clause-moving : goal.returns-clause-moving
returns-clause-moving c = glides_moving c.args.n (courses c.args.state c.args.self.frequency) _ refl c.glides.ensures

pub returns-clause-safe : goal.returns-clause-safe
returns-clause-safe c =
    glides_safe c.args.n (courses c.args.state c.args.self.frequency) _ refl c.glides.ensures c.requires.short
    (presumed _ _ _ (search rules) (search rules) c.requires.valid c.requires.checked.1.0)
