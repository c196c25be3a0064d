-- What a caller may take of the buffer. Assumes nothing.
use mathlib.Core.Path.{◌≡◌, subst}
use mathlib.Core.List.{List}
use Prim.Native.Nat.{ℕ}
use Rattle.std.specs.Prelude.{Option, Some}
use Rattle.io.specs.Counts.{IsPrefixLen}
use Rattle.streams.specs.Input.{Inside}

-- so many bytes, where that is what the read came to
pub were_read : {input : Option ℕ} {n : ℕ} (buf : List ℕ) → Inside input buf → input ≡ Some n → IsPrefixLen n buf
were_read buf h e = subst (λ (i : Option ℕ). Inside i buf) e h
