-- The contract of each exported function, as the kit reads it, determines all: answer, words, result and samples, or bytes. Assumes nothing.
use borrow.Fn.Kinds.{ended_of}
use mathlib.Core.Path.{refl, ap}
use Rattle.floats.specs.Tightness.{Determines}
use Rattle.floats.proofs.Tightness.{coincide}
use Rattle.words.proofs.Faces.{same_face}
use Rattle.variable_shape_face.specs.Words.{SetFace}
use Rattle.classic_face.specs.Words.{StartFace}
use Rattle.wave.specs.Write.{Handed}
use Rattle.navuloqu.proofs.variable_shape_calls.navuloqu_3_variable_shape_init as variable_shape_init
use Rattle.navuloqu.proofs.variable_shape_calls.navuloqu_3_variable_shape_render as variable_shape_render
use Rattle.navuloqu.proofs.variable_shape_calls.navuloqu_3_variable_shape_set_master_phase as variable_shape_set_master_phase
use Rattle.navuloqu.proofs.variable_saw_calls.navuloqu_3_variable_saw_init as variable_saw_init
use Rattle.navuloqu.proofs.variable_saw_calls.navuloqu_3_variable_saw_render as variable_saw_render
use Rattle.navuloqu.proofs.super_square_calls.navuloqu_3_super_square_init as super_square_init
use Rattle.navuloqu.proofs.super_square_calls.navuloqu_3_super_square_render as super_square_render
use Rattle.navuloqu.proofs.nes_triangle_calls.navuloqu_3_nes_triangle_init as nes_triangle_init
use Rattle.navuloqu.proofs.nes_triangle_calls.navuloqu_3_nes_triangle_render as nes_triangle_render
use Rattle.navuloqu.proofs.string_synth_calls.navuloqu_3_string_synth_init as string_synth_init
use Rattle.navuloqu.proofs.string_synth_calls.navuloqu_3_string_synth_render as string_synth_render
use Rattle.navuloqu.proofs.classic_calls.navuloqu_3_classic_init as classic_init
use Rattle.navuloqu.proofs.classic_calls.navuloqu_3_classic_render as classic_render
use Rattle.navuloqu.proofs.stem_calls.navuloqu_3_wave_write as wave_write

pub variable_shape_init_tight : Determines (ended_of _ variable_shape_init.Kinds.ps variable_shape_init.Kinds.r) variable_shape_init.Reads.Learnt
variable_shape_init_tight κs a r q v w h k = (refl, rw (coincide h k))

pub variable_shape_render_tight : Determines (ended_of _ variable_shape_render.Kinds.ps variable_shape_render.Kinds.r) variable_shape_render.Reads.Learnt
variable_shape_render_tight κs a r q v w h k = let o = same_face (coincide h k) in (o.0, rw (o.1, o.2, o.3))

pub variable_shape_set_master_phase_tight : Determines (ended_of _ variable_shape_set_master_phase.Kinds.ps variable_shape_set_master_phase.Kinds.r) variable_shape_set_master_phase.Reads.Learnt
variable_shape_set_master_phase_tight κs a r q v w h k = let e = coincide h k in (ap (λ (f : SetFace). f.number) e, ap (λ (f : SetFace). (f.words, (tt, tt))) e)

pub variable_saw_init_tight : Determines (ended_of _ variable_saw_init.Kinds.ps variable_saw_init.Kinds.r) variable_saw_init.Reads.Learnt
variable_saw_init_tight κs a r q v w h k = (refl, rw (coincide h k))

pub variable_saw_render_tight : Determines (ended_of _ variable_saw_render.Kinds.ps variable_saw_render.Kinds.r) variable_saw_render.Reads.Learnt
variable_saw_render_tight κs a r q v w h k = let o = same_face (coincide h k) in (o.0, rw (o.1, o.2, o.3))

pub super_square_init_tight : Determines (ended_of _ super_square_init.Kinds.ps super_square_init.Kinds.r) super_square_init.Reads.Learnt
super_square_init_tight κs a r q v w h k = (refl, rw (coincide h k))

pub super_square_render_tight : Determines (ended_of _ super_square_render.Kinds.ps super_square_render.Kinds.r) super_square_render.Reads.Learnt
super_square_render_tight κs a r q v w h k = let o = same_face (coincide h k) in (o.0, rw (o.1, o.2, o.3))

pub nes_triangle_init_tight : Determines (ended_of _ nes_triangle_init.Kinds.ps nes_triangle_init.Kinds.r) nes_triangle_init.Reads.Learnt
nes_triangle_init_tight κs a r q v w h k = (refl, rw (coincide h k))

pub nes_triangle_render_tight : Determines (ended_of _ nes_triangle_render.Kinds.ps nes_triangle_render.Kinds.r) nes_triangle_render.Reads.Learnt
nes_triangle_render_tight κs a r q v w h k = let o = same_face (coincide h k) in (o.0, rw (o.1, o.2, o.3))

pub string_synth_init_tight : Determines (ended_of _ string_synth_init.Kinds.ps string_synth_init.Kinds.r) string_synth_init.Reads.Learnt
string_synth_init_tight κs a r q v w h k = (refl, rw (coincide h k))

pub string_synth_render_tight : Determines (ended_of _ string_synth_render.Kinds.ps string_synth_render.Kinds.r) string_synth_render.Reads.Learnt
string_synth_render_tight κs a r q v w h k = let o = same_face (coincide h k) in (o.0, rw (o.1, o.2, o.3))

pub classic_init_tight : Determines (ended_of _ classic_init.Kinds.ps classic_init.Kinds.r) classic_init.Reads.Learnt
classic_init_tight κs a r q v w h k = let e = coincide h k in (ap (λ (f : StartFace). f.number) e, ap (λ (f : StartFace). (f.words, (tt, tt))) e)

pub classic_render_tight : Determines (ended_of _ classic_render.Kinds.ps classic_render.Kinds.r) classic_render.Reads.Learnt
classic_render_tight κs a r q v w h k = let o = same_face (coincide h k) in (o.0, rw (o.1, o.2, o.3))

pub wave_write_tight : Determines (ended_of _ wave_write.Kinds.ps wave_write.Kinds.r) wave_write.Reads.Learnt
wave_write_tight κs a r q v w h k = let e = coincide h k in (ap (λ (f : Handed). f.number) e, ap (λ (f : Handed). (tt, (tt, (f.bytes, tt)))) e)
