-- The form of a stem: mono 16-bit PCM after the RIFF/WAVE description (Multimedia Programming Interface and Data Specifications 1.0), "44 header bytes,
-- then samples". Numbers are little-endian. Assumes nothing.
use Rattle.std.specs.Prelude.{List, [], ◌∷◌, ◌++◌, ℕ, zero, suc, ◌+◌, ◌*◌, ◌/◌, ◌%◌, Float, length}
use Rattle.wave.specs.Pcm.{pcm_of, held_as}

-- the n lowest bytes of a number, the lowest first
unfoldable pub low_first : ℕ → ℕ → List ℕ
low_first zero v = []
low_first (suc n) v = v % 256 ∷ low_first n (v / 256)

-- a DWORD and a WORD of the description
abbrev pub dword : ℕ → List ℕ
dword v = low_first 4 v

abbrev pub word : ℕ → List ℕ
word v = low_first 2 v

-- the ASCII letters that name a chunk or a form: "RIFF", "WAVE", "fmt " and "data"
abbrev pub riff_id : List ℕ
riff_id = 82 ∷ 73 ∷ 70 ∷ 70 ∷ []

abbrev pub wave_id : List ℕ
wave_id = 87 ∷ 65 ∷ 86 ∷ 69 ∷ []

abbrev pub fmt_id : List ℕ
fmt_id = 102 ∷ 109 ∷ 116 ∷ 32 ∷ []

abbrev pub data_id : List ℕ
data_id = 100 ∷ 97 ∷ 116 ∷ 97 ∷ []

-- the 44 header bytes of `size` bytes of samples at a rate, field by field
unfoldable pub header_of : ℕ → ℕ → List ℕ
header_of rate size =
    riff_id  -- ckID
    ++ dword (36 + size)  -- ckSize: how many bytes follow
    ++ wave_id  -- the form's type
    ++ fmt_id  -- ckID
    ++ dword 16  -- ckSize
    ++ word 1  -- wFormatTag: WAVE_FORMAT_PCM
    ++ word 1  -- wChannels: mono
    ++ dword rate  -- dwSamplesPerSec
    ++ dword (2 * rate)  -- dwAvgBytesPerSec
    ++ word 2  -- wBlockAlign: bytes of a sample
    ++ word 16  -- wBitsPerSample
    ++ data_id  -- ckID
    ++ dword size  -- ckSize

-- the numbers of the samples
unfoldable pub samples_of : List Float → List ℕ
samples_of [] = []
samples_of (x ∷ rest) = word (held_as (pcm_of x)) ++ samples_of rest

-- a whole stem
abbrev pub stem_of : ℕ → List Float → List ℕ
stem_of rate xs = header_of rate (2 * length xs) ++ samples_of xs
