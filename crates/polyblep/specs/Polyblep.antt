-- The source's utils/polyblep.rs, operation for operation: what a step in the waveform adds to the sample that it falls into and to the next. Assumes nothing.
use Rattle.std.specs.Prelude.{Float}
use Rattle.std.specs.Float.Ieee.{neg}
use Rattle.floats.specs.F32.{◌⊕◌, ◌⊖◌, ◌⊗◌, f32, half32, one32, three_halves32}

-- lines 6 to 9
abbrev pub this_blep_sample : Float → Float
this_blep_sample t = half32 ⊗ t ⊗ t

-- lines 11 to 15: from the left, so that t = 1 gives -0.0
abbrev pub next_blep_sample : Float → Float
next_blep_sample t = neg half32 ⊗ (one32 ⊖ t) ⊗ (one32 ⊖ t)

-- lines 17 to 23: 0.1875 - t1 + 1.5 * t2 - t4
abbrev pub next_integrated_blep_sample : Float → Float
next_integrated_blep_sample t =
    let t1 = half32 ⊗ t in
    let t2 = t1 ⊗ t1 in
    let t4 = t2 ⊗ t2 in
    f32 0x3e40_0000 ⊖ t1 ⊕ three_halves32 ⊗ t2 ⊖ t4

-- lines 25 to 28
abbrev pub this_integrated_blep_sample : Float → Float
this_integrated_blep_sample t = next_integrated_blep_sample (one32 ⊖ t)
