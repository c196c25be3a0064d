-- A figure of the classic oscillator: one sample of a shape, and the start at a sample rate. A state is its nine words, in the source's order. Assumes nothing.
use Rattle.std.specs.Prelude.{List, [], ◌∷◌, ◌++◌, ℕ, eqb, get_or, Float}
use Rattle.std.specs.Float.{binary32}
use Rattle.std.specs.Float.Ieee.{to_bits}
use Rattle.floats.specs.F32.{f32}
use Rattle.block.specs.Counting.{one_if, told}
use Rattle.classic.specs.declared.State.{State}
use Rattle.classic.specs.declared.OscillatorShape.{OscillatorShape}
use Rattle.classic.specs.State.{new_state}
use Rattle.classic.specs.Start.{started_at}
use Rattle.classic.specs.Sample.{sample_of}

abbrev float : List ℕ → ℕ → Float
float words k = f32 (get_or words k 0)

abbrev state_of : List ℕ → State
state_of words = record {
  phase = float words 0;
  next_sample = float words 1;
  lp_state = float words 2;
  hp_state = float words 3;
  high = eqb (get_or words 4 0) 1;
  frequency = float words 5;
  pw = float words 6;
  impulse_train_lp_coeff = float words 7;
  impulse_train_gain = float words 8;
}

abbrev words_of : State → List ℕ
words_of s =
    to_bits binary32 s.phase
    ∷ to_bits binary32 s.next_sample
    ∷ to_bits binary32 s.lp_state
    ∷ to_bits binary32 s.hp_state
    ∷ one_if s.high
    ∷ to_bits binary32 s.frequency
    ∷ to_bits binary32 s.pw
    ∷ to_bits binary32 s.impulse_train_lp_coeff
    ∷ to_bits binary32 s.impulse_train_gain
    ∷ []

-- from a state's words, the frequency's step and the width's: the sample, the words of the state after it, and cycles, rises, falls, cuts and late
abbrev pub sample_figure : OscillatorShape → List ℕ → List ℕ
sample_figure shape inputs =
    let t = sample_of shape (state_of inputs) (float inputs 9) (float inputs 10) in
    to_bits binary32 t.sample ∷ (words_of t.state ++ told t.counts)

-- from a sample rate: the answer's number, and the words of the state, which was `new`'s
abbrev pub start_figure : Float → List ℕ
start_figure rate = let r = started_at new_state rate in r.number ∷ words_of r.state
