-- Which frequencies are answered: from MIN_FREQUENCY to 0.5; above 0.5 and up to 1 the answer is 5. No call is silent. Assumes nothing.
use Rattle.std.proofs.Common.{◌≡◌, ◌≤◌, Bool, true, false, not, ◌&&◌, [], ◌∷◌, length, sym, refl, ap, ◌∙◌, true≢false, eq-eqb, le-leb}
use lib.Ieee.{Float, lt, le, of_bits, is_nan}
use Rattle.floats.specs.F32.{zero32, half32, one32, four32, min_frequency}
use Rattle.floats.proofs.Order.{numbers, lt→le, le_trans, le_not_lt, not_le_lt}
use Rattle.ranges.specs.Ranges.{within, parameter_frequency_in, all_of}
use Rattle.block.specs.Calls.{refusal, run}
use Rattle.block.specs.Checks.{Check, FirstFailing, here, later, ◌unless◌}
use Rattle.block.specs.Oscillator.{call_of}
use Rattle.floats.proofs.Bools.{and_both}
use Rattle.ranges.proofs.AllOf.{of_each}
use Rattle.block.proofs.Ways.{refused_by, runs}
use Rattle.string_synth.specs.declared.State.{State}
use Rattle.string_synth.specs.Sample.{sample_at}
use Rattle.string_synth.specs.Block.{state_in, registration_in, parameters_in, Arguments, rooms, string_synth}

half_one : le half32 one32 ≡ true
unfolding le of_bits
half_one = refl

min_half : le min_frequency half32 ≡ true
unfolding le of_bits
min_half = refl

-- checks 4 and 5 pass exactly where the frequency lies between MIN_FREQUENCY and 0.5, a NaN among those that do not
pub passes : (f : Float) → (parameter_frequency_in f && not (lt half32 f)) ≡ within min_frequency half32 f
passes f = go (le min_frequency f) (le f one32) (lt half32 f) (le f half32) refl refl refl refl
  where
    half_number : is_nan half32 ≡ false
    half_number = (numbers half32 one32 half_one).0

    go : (a b c d : Bool) → le min_frequency f ≡ a → le f one32 ≡ b → lt half32 f ≡ c → le f half32 ≡ d → ((a && b) && not c) ≡ (a && d)
    go false b c d p q r t = refl
    go true true true true p q r t = absurd (true≢false (sym r ∙ le_not_lt half32 f t))
    go true true true false p q r t = refl
    go true true false true p q r t = refl
    go true true false false p q r t = absurd (true≢false (sym (not_le_lt f half32 (numbers min_frequency f p).1 half_number t) ∙ r))
    go true false c true p q r t = absurd (true≢false (sym (le_trans f half32 one32 t half_one) ∙ q))
    go true false c false p q r t = refl

-- a call whose other arguments are fit
module _ (s : State) (a : Arguments) (short : length a.buffer ≤ 4096) (seven : length a.registration ≡ 7) (state : state_in s ≡ true) (entries : registration_in a.registration ≡ true)
    (loud : within zero32 four32 a.gain ≡ true) where
  -- up to the checks of the frequency all pass
  parameters_first : {k : Check} → FirstFailing (4 unless parameters_in a.frequency a.registration a.gain ∷ 5 unless not (lt half32 a.frequency) ∷ []) k → call_of string_synth s a ≡ refusal k.number 0 s a.buffer
  parameters_first f = refused_by string_synth s a (later (le-leb (length a.buffer) 4096 short) (later (eq-eqb (length a.registration) 7 seven) (later state f)))

  pub out_of_range : parameter_frequency_in a.frequency ≡ false → call_of string_synth s a ≡ refusal 4 0 s a.buffer
  unfolding parameters_in all_of
  out_of_range p = parameters_first (here (rw p))

  in_range : parameter_frequency_in a.frequency ≡ true → parameters_in a.frequency a.registration a.gain ≡ true
  unfolding parameters_in
  in_range p = of_each _ (p, (entries, (loud, tt)))

  pub too_high_is_5 : lt half32 a.frequency ≡ true → le a.frequency one32 ≡ true → call_of string_synth s a ≡ refusal 5 0 s a.buffer
  too_high_is_5 h k =
      let low : le min_frequency a.frequency ≡ true = le_trans min_frequency half32 a.frequency min_half (lt→le half32 a.frequency h) in
      parameters_first (later (in_range (rw (low, k))) (here (ap not h)))

  pub answered : within min_frequency half32 a.frequency ≡ true → call_of string_synth s a ≡ run sample_at rooms (string_synth.moving s a) s a.buffer
  answered w =
      let p = and_both (parameter_frequency_in a.frequency) (not (lt half32 a.frequency)) (passes a.frequency ∙ w) in
      runs string_synth s a (le-leb (length a.buffer) 4096 short, (eq-eqb (length a.registration) 7 seven, (state, (in_range p.0, (p.1, tt)))))
