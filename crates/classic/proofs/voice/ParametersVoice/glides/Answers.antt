-- The classic oscillator's glides: the frequency and the width that is stepped stand in the first places, and where all are safe no step leaves its room. Assumes nothing.
use Rattle.std.proofs.Common.{rules, ◌≡◌, List, subst, ◌∙◌}
use Rattle.std.specs.Prelude.{None}
use Rattle.parameter_interpolator.specs.declared.ParameterInterpolator.{ParameterInterpolator}
use Rattle.rooms.specs.Steps.{steps_of, first_outside}
use Rattle.block.proofs.Runs.{glides_moving, glides_safe}
use Rattle.classic.specs.Block.{rooms}
use Rattle.classic.specs.Private.{courses}
use Rattle.classic.proofs.Courses.{course_rooms, course_starts, presumed}
use Rattle.classic.proofs.voice.ParametersVoice.glides.Goals as goal

pub returns-clause-moving : goal.returns-clause-moving
returns-clause-moving c =
    let p = c.args.self in
    glides_moving c.args.n (courses c.args.state p.frequency p.pw p.shape) _ (course_rooms c.args.state p.frequency p.pw p.shape) c.glides.ensures ∙ course_starts c.args.state p.frequency p.pw c.args.n p.shape

pub returns-clause-safe : goal.returns-clause-safe
returns-clause-safe c h =
    let p = c.args.self in
    subst (λ (ps : List ParameterInterpolator). first_outside (rooms p.shape) (steps_of c.args.n ps) ≡ None) (course_starts c.args.state p.frequency p.pw c.args.n p.shape)
    (glides_safe c.args.n (courses c.args.state p.frequency p.pw p.shape) _ (course_rooms c.args.state p.frequency p.pw p.shape) c.glides.ensures c.requires.short
    (presumed _ _ _ (search rules) (search rules) (search rules) (search rules) p.shape c.requires.valid c.requires.checked.1.0) h)
