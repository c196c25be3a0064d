-- `jobs::asks` meets its contract: another length, a number that names no kind, or an unused byte that is not zero, is refused. Assumes nothing.
use Rattle.std.specs.Prelude.{Option, None}
use mathlib.Core.Path.{◌≡◌, refl, sym, ◌∙◌}
use mathlib.Core.Bool.{Bool, true, false, cond}
use borrow.Author.Tests.{eq-eqb, ne_eqb}
use Rattle.jobs.specs.declared.Settings.{Settings}
use Rattle.jobs.specs.Record.{asked_of}
use Rattle.jobs.proofs.Named.{named, nameless}
use Rattle.jobs.proofs.asks.Goals as goal

refused : (good : Bool) {asked : Option Settings} → asked ≡ None → None ≡ cond good asked None
refused true h = sym h
refused false h = refl

pub returns-then-part-ne64 : goal.returns-then-part-ne64
unfolding asked_of
returns-then-part-ne64 c = rw (ne_eqb _ 64 c.if-part-ne64.true)

pub returns-in_err-kind : goal.returns-in_err-kind
unfolding asked_of
returns-in_err-kind c = c.from_residual.ensures ∙ refused _ (nameless _ c.args.part.now (sym c.of.ensures ∙ c.in_err-kind.was))

pub returns-then-zero : goal.returns-then-zero
unfolding asked_of
returns-then-zero c =
    rw (eq-eqb _ 64 c.if-part-ne64.false, named (sym c.of.ensures ∙ c.in_ok-kind.was), sym c.zero.ensures ∙ c.if-zero.true) c.by_kind.ensures

pub returns-else-zero : goal.returns-else-zero
unfolding asked_of
returns-else-zero c =
    rw (eq-eqb _ 64 c.if-part-ne64.false, named (sym c.of.ensures ∙ c.in_ok-kind.was), sym c.zero.ensures ∙ c.if-zero.false)
