-- What the crate's own functions ask of each other. No public contract cites it, and a reader need not believe it. Assumes nothing.
use Rattle.std.specs.Prelude.{◌≡◌, ℕ, ◌*◌, ◌<◌, true, T, List, [], ◌∷◌, pos, bit_and, slice_index_or, Float}
use Rattle.std.specs.Float.{nan, binary32}
use Rattle.std.specs.Float.Ieee.{fits}
use Rattle.floats.specs.F32.{whole32, zero32, top_string_step}
use Rattle.floats.proofs.Ticks.{cycle}
use Rattle.floats.proofs.Ranges.{Under}
use Rattle.ranges.specs.Ranges.{within}
use Rattle.rooms.specs.declared.Room.TheVariants.{StringFrequency, ModulationOrGain}
use Rattle.rooms.proofs.Guard.{Course}
use Rattle.string_synth.specs.declared.State.{State}
use Rattle.string_synth.specs.declared.sample.Saws.{Saws}
use Rattle.string_synth.specs.declared.sample.Starts.{Starts}
use Rattle.string_synth.specs.Block.{gains_in}

-- the phase is a binary32 value of at least 0 and below 8, the segment one of the eight, and the frequency and the gains pass their tests
pub record Valid (s : State) : Type 0 where
  pub phase : Under s.phase (8 * cycle)
  pub k : ℕ
  pub segment : s.segment ≡ pos k
  pub below : k < 8
  pub frequency : within zero32 top_string_step s.frequency ≡ true
  pub gains : gains_in s.saw_8_gain s.saw_4_gain s.saw_2_gain s.saw_1_gain ≡ true

-- a registration's entries are binary32 values, as those of every slice of a program are
abbrev pub Entries32 : List Float → Type 0
Entries32 registration = (i : ℕ) → T (fits binary32 (slice_index_or registration i nan))

-- the courses of its parameters: the frequency and the four gains go to their targets
abbrev pub courses : State → Saws → List Course
courses s to =
    record { room = StringFrequency; value = s.frequency; target = to.frequency }
    ∷ record { room = ModulationOrGain; value = s.saw_8_gain; target = to.saw_8_gain }
    ∷ record { room = ModulationOrGain; value = s.saw_4_gain; target = to.saw_4_gain }
    ∷ record { room = ModulationOrGain; value = s.saw_2_gain; target = to.saw_2_gain }
    ∷ record { room = ModulationOrGain; value = s.saw_1_gain; target = to.saw_1_gain }
    ∷ []

-- the starts of a segment's saws: lines 142 to 144
abbrev pub starts_of : ℕ → Starts
starts_of segment = record { saw_4 = whole32 (bit_and segment 4); saw_2 = whole32 (bit_and segment 6); saw_1 = whole32 (bit_and segment 7) }
