-- Every public function's contract, as the kit reads it, determines all: of `render` number, length and text. Assumes nothing.
use borrow.Fn.Kinds.{ended_of}
use mathlib.Core.Path.{◌≡◌, refl, ap}
use native.Mathlib.Omega.{arith}
use Rattle.floats.specs.Tightness.{Determines}
use Rattle.floats.proofs.Tightness.{coincide}
use Rattle.render.specs.declared.Written.{Written}
use Rattle.render.specs.declared.Written.TheVariants.{Text, BadInput, NoRoom}
use Rattle.render.specs.Lists.{Handed, number_of, count_of}
use Rattle.render.proofs.count
use Rattle.render.proofs.form.is_job_list
use Rattle.render.proofs.form.looks_like_text
use Rattle.render.proofs.render

same_written : (r q : Written) → number_of r ≡ number_of q → count_of r ≡ count_of q → r ≡ q
same_written (Text n) (Text m) h k = ap Text k
same_written (Text n) (BadInput m) h k = absurd (omega (arith, h))
same_written (Text n) NoRoom h k = absurd (omega (arith, h))
same_written (BadInput n) (Text m) h k = absurd (omega (arith, h))
same_written (BadInput n) (BadInput m) h k = ap BadInput k
same_written (BadInput n) NoRoom h k = absurd (omega (arith, h))
same_written NoRoom (Text m) h k = absurd (omega (arith, h))
same_written NoRoom (BadInput m) h k = absurd (omega (arith, h))
same_written NoRoom NoRoom h k = refl

pub count_tight : Determines (ended_of _ count.Kinds.ps count.Kinds.r) count.Reads.Learnt
count_tight κs a r q v w h k = (coincide h k, refl)

pub is_job_list_tight : Determines (ended_of _ is_job_list.Kinds.ps is_job_list.Kinds.r) is_job_list.Reads.Learnt
is_job_list_tight κs a r q v w h k = (coincide h k, refl)

pub looks_like_text_tight : Determines (ended_of _ looks_like_text.Kinds.ps looks_like_text.Kinds.r) looks_like_text.Reads.Learnt
looks_like_text_tight κs a r q v w h k = (coincide h k, refl)

pub render_tight : Determines (ended_of _ render.Kinds.ps render.Kinds.r) render.Reads.Learnt
render_tight κs a r q v w h k =
    let same = coincide h k in
    (same_written r q (ap (λ (x : Handed). x.number) same) (ap (λ (x : Handed). x.count) same), ap (λ (x : Handed). (tt, (x.buffer, tt))) same)
