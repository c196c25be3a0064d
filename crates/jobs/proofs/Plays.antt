-- A record is played where the definition's test holds, and refused where it does not. Assumes nothing.
use Rattle.std.specs.Prelude.{None, Some}
use mathlib.Core.Path.{◌≡◌}
use mathlib.Core.Bool.{Bool, true, false}
use Rattle.jobs.specs.Record.{play_if}
use Rattle.jobs.specs.declared.Settings.{Settings}

pub plays : {good : Bool} {s s' : Settings} → good ≡ true → s ≡ s' → Some s ≡ play_if good s'
plays h e = rw (h, e)

pub refuses : {good : Bool} (s : Settings) → good ≡ false → None ≡ play_if good s
refuses s h = rw h
