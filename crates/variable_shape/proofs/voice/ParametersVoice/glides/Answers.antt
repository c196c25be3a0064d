-- The variable shape's glides: its parameters stand in the first places, and where all are safe no step leaves its room. Assumes nothing.
use Rattle.std.proofs.Common.{rules, ◌∙◌}
use Rattle.block.proofs.Runs.{glides_moving, glides_safe}
use Rattle.variable_shape.specs.Private.{courses}
use Rattle.variable_shape.proofs.Courses.{course_rooms, course_starts, course_glides, Fits32, presumed}
use Rattle.variable_shape.proofs.voice.ParametersVoice.glides.Goals as goal

pub returns-clause-moving : goal.returns-clause-moving
returns-clause-moving c =
    let p = c.args.self in
    let s = c.args.state in
    let n = c.args.n in
    let on = p.phase_output in
    glides_moving n (courses s p on) _ (course_rooms s p on) (course_glides s p n on c.glides.ensures) ∙ course_starts s p n on

pub returns-clause-safe : goal.returns-clause-safe
returns-clause-safe c =
    let p = c.args.self in
    let s = c.args.state in
    let n = c.args.n in
    let on = p.phase_output in
    let k = c.requires.checked in
    let f : Fits32 s p = record {
      s_master = search rules;
      s_slave = search rules;
      s_pw = search rules;
      s_waveshape = search rules;
      s_modulation = search rules;
      master = search rules;
      slave = search rules;
      width = search rules;
      shape = search rules;
      modulation = search rules;
    } in
    rw (← course_starts s p n on) (glides_safe n (courses s p on) _ (course_rooms s p on) (course_glides s p n on c.glides.ensures) c.requires.short (presumed s p on f k.0 k.1.0))
