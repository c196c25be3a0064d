-- `nes_triangle::quiet::sample` meets its contract: under its test it is what the definition gives. Assumes nothing.
use Rattle.std.proofs.Common.{rules, sym, to_z-of_z, w32}
use Rattle.nes_triangle.proofs.Held.{sample_quiet}
use Rattle.nes_triangle.proofs.quiet.sample.Goals as goal

pub returns-clause-made : goal.returns-clause-made
returns-clause-made c =
    let p = c.requires in
    rw (c.none.ensures, c.tri_level.ensures, c.fade-g.ensures, to_z-of_z {w = w32} {z = c.args.s.step} (search rules))
    (sym (sample_quiet p.ready p.held_of_step p.step_stays))
