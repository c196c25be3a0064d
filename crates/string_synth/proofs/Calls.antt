-- What a call of the string synth makes sure of: its state is valid. Assumes nothing.
use Rattle.std.proofs.Common.{◌≡◌, ℕ, ◌<◌, true, ℤ, pos, negsuc, sym, refl, true≢false, zero-le, arith, le-leb, leb-true}
use lib.Signed.{le_z}
use Rattle.floats.proofs.Ticks.{eight_at}
use Rattle.floats.proofs.Ranges.{at_least_0, under_of, under_lt}
use Rattle.block.specs.Account.{Phases32}
use Rattle.floats.proofs.Bools.{and_both}
use Rattle.ranges.proofs.AllOf.{each_of, of_each}
use Rattle.string_synth.specs.declared.State.{State}
use Rattle.string_synth.specs.Block.{string_phase_in, segment_in, state_in, string_synth}
use Rattle.string_synth.specs.Private.{Valid}

-- a segment that passed its test is one of the eight
segment_of : (z : ℤ) → segment_in z ≡ true → (k : ℕ) × (z ≡ pos k) × (k < 8)
segment_of (pos k) h = (k, refl, omega (arith, leb-true k 7 (and_both (le_z (pos 0) (pos k)) (le_z (pos k) (pos 7)) h).1))
segment_of (negsuc k) h = absurd (true≢false (sym h))

-- a state that passed its test is valid, and the other way round
pub valid_of : (s : State) → Phases32 string_synth s → state_in s ≡ true → Valid s
unfolding state_in
valid_of s f h =
    let e = each_of _ h in
    let x = and_both _ _ e.0 in
    let k = segment_of s.segment e.1.0 in
    record { phase = under_of f.0 x.0 x.1 eight_at; k = k.0; segment = k.1; below = k.2; frequency = e.1.1.0; gains = e.1.1.1.0 }

pub of_valid : (s : State) → Valid s → state_in s ≡ true
unfolding state_in
of_valid s v =
    let phase : string_phase_in s.phase ≡ true = rw (at_least_0 v.phase.at, under_lt eight_at v.phase) in
    let segment : segment_in s.segment ≡ true = rw (v.segment, le-leb 0 v.k zero-le, le-leb v.k 7 (omega (arith, v.below))) in
    of_each _ (phase, (segment, (v.frequency, (v.gains, tt))))
