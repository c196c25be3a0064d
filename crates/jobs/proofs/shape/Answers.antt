-- `jobs::shape` meets its contract: flags above 3 are refused. Assumes nothing.
use mathlib.Core.Path.{refl, sym, ap, ◌∙◌}
use Prim.Native.Nat.{ℕ, ◌%◌}
use lib.Dec.{eqb, leb}
use lib.ListN.{get_or}
use borrow.Author.Tests.{le-leb, lt-leb}
use Rattle.jobs.proofs.Plays.{plays, refuses}
use Rattle.jobs.specs.declared.Settings.TheVariants.{VariableShape}
use Rattle.jobs.specs.Words.{float_at}
use Rattle.jobs.specs.Record.{shape_of}
use Rattle.jobs.proofs.shape.Goals as goal

pub returns-then-flags-gt3 : goal.returns-then-flags-gt3
unfolding shape_of
returns-then-flags-gt3 c = refuses _ (sym (ap (λ (n : ℕ). leb n 3) c.byte_at-flags.ensures) ∙ lt-leb _ 3 c.if-flags-gt3.true)

pub returns : goal.returns
unfolding shape_of
returns c =
    let p = c.args.part.now in
    plays (sym (ap (λ (n : ℕ). leb n 3) c.byte_at-flags.ensures) ∙ le-leb _ 3 c.if-flags-gt3.false)
    (rw (c.float_at.ensures, c.float_at-2.ensures, c.float_at-3.ensures, c.float_at-4.ensures, c.float_at-5.ensures, c.byte_at-flags.ensures)
    refl)
