-- What a call of the NES triangle makes sure of: its bits and its state are valid. Assumes nothing.
use Rattle.std.proofs.Common.{◌≡◌, ℕ, ◌^◌, true, leb, ℤ, pos, negsuc, sym, refl, true≢false, ltb-true, lt-ltb, le-leb, leb-true}
use lib.Ieee.{Float}
use Rattle.block.specs.Account.{Phases32}
use Rattle.rooms.proofs.RangeLaws.{phase_under, under_phase}
use Rattle.floats.proofs.Bools.{and_both}
use Rattle.ranges.proofs.AllOf.{each_of, of_each}
use Rattle.nes_triangle.specs.declared.State.{State}
use Rattle.nes_triangle.specs.Depth.{bits_in, tested_bits}
use Rattle.nes_triangle.specs.Block.{step_in, state_in, parameters_in, nes_triangle}
use Rattle.nes_triangle.specs.Private.{Below, BitsIn, Passed}

step_of : (bits : ℕ) (z : ℤ) → bits_in bits ≡ true → step_in bits z ≡ true → Below z (2 ^ bits)
step_of bits (pos n) b h = record { n = n; is = refl; under = rw b at (ltb-true n (2 ^ tested_bits bits) h) }
step_of bits (negsuc n) b h = absurd (true≢false (sym h))

-- bits and a state that passed their tests are valid, and the other way round
pub passed_of : (s : State) (frequency : Float) (bits : ℕ) → Phases32 nes_triangle s → state_in s bits ≡ true → parameters_in frequency bits ≡ true → Passed bits s
unfolding state_in parameters_in
passed_of s frequency bits f h k =
    let e = each_of _ h in
    let in_range = (each_of _ k).1.0 in
    let b = and_both (leb 1 bits) (leb bits 16) in_range in
    record {
      bits_in = record { low = leb-true 1 bits b.0; high = leb-true bits 16 b.1 };
      valid = record { phase = phase_under f.0 e.0; frequency = e.1.0; step = step_of bits s.step in_range e.1.1.0 };
    }

of_bits : (bits : ℕ) → BitsIn bits → bits_in bits ≡ true
of_bits bits b = rw (le-leb 1 bits b.low, le-leb bits 16 b.high)

pub of_passed : (s : State) (bits : ℕ) → Passed bits s → state_in s bits ≡ true
unfolding state_in
of_passed s bits v =
    let step = v.valid.step in
    let in_range : step_in bits s.step ≡ true = rw (step.is, of_bits bits v.bits_in) (lt-ltb step.n (2 ^ bits) step.under) in
    of_each _ (under_phase v.valid.phase, (v.valid.frequency, (in_range, tt)))
