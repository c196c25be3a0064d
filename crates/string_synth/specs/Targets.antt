-- What a call's parameters become before its block starts: string_synth_oscillator.rs, lines 60 to 100. Assumes nothing.
use Rattle.std.specs.Prelude.{ℕ, zero, suc, ◌+◌, ◌-◌, cond, List, nat_lt, slice_index_or, Float}
use Rattle.std.specs.Float.{nan}
use Rattle.std.specs.Float.Ieee.{lt}
use Rattle.floats.specs.F32.{◌⊕◌, ◌⊖◌, ◌⊗◌, zero32, half32, two32, eight32}
use Rattle.string_synth.specs.declared.sample.Saws.{Saws}
use Rattle.string_synth.specs.declared.targets.Octave.{Octave}

-- k turns at most of the source's `while`, lines 66 to 69: a frequency above 0.5 is halved, and shifts the registration by two places more
unfoldable pub halved : ℕ → Octave → Octave
halved zero o = o
halved (suc k) o = cond (lt half32 o.frequency) (halved k (record { frequency = o.frequency ⊗ half32; shift = o.shift + 2 })) o

-- After four turns the shift is 8, and there the source gives up, line 71. `proofs/Shifts` shows that a frequency of at most 0.5 times 8
-- leaves by the loop's own test before, so that more turns change nothing.
abbrev pub lowered : Float → Octave
lowered frequency = halved 4 (record { frequency = frequency; shift = 0 })

-- how far a frequency shifts the registration. 01: "1/16 shifts 0, the next float up shifts 2, exactly 0.5 shifts 6"
abbrev pub shift_of : Float → ℕ
shift_of frequency = (lowered (frequency ⊗ eight32)).shift

-- lines 75 to 78: 0.0 in the places that the shift leaves empty. A registration that is too short for a place is refused before.
abbrev pub placed_at : List Float → ℕ → ℕ → Float
placed_at unshifted shift i = cond (nat_lt i shift) zero32 (slice_index_or unshifted (i - shift) nan)

-- lines 88 and 93: a saw's own gain, less that of the square an octave below, and twice that of its own square
abbrev pub gain_between : Float → Float → Float → Float → Float
gain_between saw below square gain = (saw ⊖ below ⊕ two32 ⊗ square) ⊗ gain

-- lines 60 to 100: a square wave is twice the saw of its length less the saw an octave above
unfoldable pub targets_of : Float → List Float → Float → Saws
unfolding halved
targets_of frequency unshifted gain =
    let octave = lowered (frequency ⊗ eight32) in
    let registration = placed_at unshifted octave.shift in
    record {
      frequency = octave.frequency;
      saw_8_gain = (registration 0 ⊕ two32 ⊗ registration 1) ⊗ gain;
      saw_4_gain = gain_between (registration 2) (registration 1) (registration 3) gain;
      saw_2_gain = gain_between (registration 4) (registration 3) (registration 5) gain;
      saw_1_gain = (registration 6 ⊖ registration 5) ⊗ gain;
    }
