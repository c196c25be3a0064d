-- Demand 2: "On the accepted domain each sample and each carried value equals the Rust's, bit by bit: IEEE 754 binary32 in the source's order. Proved of a definition, and run against
-- the Rust."
-- The contract of each `render` is the definition's call. Here: where that is answered, it is the definition's samples, one after the other, over the steps that the interpolators
-- give, with the state and the counts that they leave. Assumes nothing.
use Rattle.std.specs.Prelude.{◌≡◌}
use Rattle.block.specs.Calls.{done}
use Rattle.block.specs.Oscillator.{Oscillator, call_of, heard_of}

abbrev pub Demand2 : {S A : Type 0} → Oscillator S A → Type 0
Demand2 {S} {A} o = (s : S) (a : A) → (call_of o s a).number ≡ 0 → call_of o s a ≡ done (heard_of o s a)
