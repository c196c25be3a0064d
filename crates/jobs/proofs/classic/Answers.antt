-- `jobs::classic` meets its contract: flags that name no shape are refused. Assumes nothing.
use Rattle.std.specs.Prelude.{Option}
use mathlib.Core.Path.{◌≡◌, sym, ap, ◌∙◌}
use Prim.Native.Nat.{ℕ}
use Rattle.classic.specs.declared.OscillatorShape.{OscillatorShape}
use Rattle.classic.specs.Shapes.{numbered}
use Rattle.jobs.specs.Record.{classic_of}
use Rattle.jobs.proofs.classic.Goals as goal

-- what the flags name, once they are read, widened and looked up
flags_name : {flags byte number : ℕ} {named m : Option OscillatorShape} → byte ≡ flags → number ≡ byte → named ≡ numbered number → named ≡ m → numbered flags ≡ m
flags_name read wide looked m = sym (ap numbered (wide ∙ read)) ∙ sym looked ∙ m

pub returns-in_err-shape : goal.returns-in_err-shape
unfolding classic_of
returns-in_err-shape c =
    rw (c.from_residual.ensures, flags_name c.byte_at.ensures c.from.ensures c.shape_of.ensures c.in_err-shape.was)

pub returns : goal.returns
unfolding classic_of
returns c =
    rw (c.float_at.ensures, c.float_at-2.ensures, flags_name c.byte_at.ensures c.from.ensures c.shape_of.ensures c.in_ok-shape.was)
