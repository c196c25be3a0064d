-- A record is malformed, or a call of one oscillator from its state in the bank: what holds of both holds of every record. Assumes nothing.
use Rattle.std.specs.Prelude.{Option, None, Some}
use mathlib.Core.Path.{◌≡◌, refl}
use mathlib.Core.List.{List}
use Prim.Native.Nat.{ℕ}
use lib.Ieee.{Float}
use Rattle.block.specs.Oscillator.{Oscillator, call_of}
use Rattle.jobs.specs.Record.{job_of}
use Rattle.jobs.specs.declared.Settings.{Settings}
use Rattle.jobs.specs.declared.Settings.TheVariants.{VariableShape, VariableSaw, SuperSquare, NesTriangle, StringSynth, Classic}
use Rattle.variable_shape.specs.Block as Shape
use Rattle.variable_saw.specs.Block as Saw
use Rattle.super_square.specs.Block as Square
use Rattle.nes_triangle.specs.Block as Nes
use Rattle.string_synth.specs.Block as Strings
use Rattle.classic.specs.Block as Classics
use Rattle.bank.specs.declared.Bank.{Bank}
use Rattle.bank.specs.Bank.{Made, with_shape, with_saw, with_super_square, with_nes, with_string, with_classic, played, shape_played, saw_played, super_square_played, nes_played, string_played, classic_played, settings_played, asked_played, record_played, refused_record, silence}

-- what settings make of a buffer, for each kind
pub by_settings : (b : Bank) (registration : List Float) (P : (List Float → Made) → Type 0)
    → ((S A : Type 0) (o : Oscillator S A) (s : S) (put : S → Bank) (lent : List Float → A) → put s ≡ b → ((xs : List Float) → o.buffer (lent xs) ≡ xs) → P (λ xs. played put (call_of o s (lent xs))))
    → (t : Settings) → P (λ xs. settings_played b t registration xs)
unfolding shape_played saw_played super_square_played nes_played string_played classic_played
by_settings b registration P call (VariableShape p) = call _ _ (Shape.variable_shape p.sync) b.shape (with_shape b) _ refl (λ xs. refl)
by_settings b registration P call (VariableSaw p) = call _ _ Saw.variable_saw b.saw (with_saw b) _ refl (λ xs. refl)
by_settings b registration P call (SuperSquare p) = call _ _ Square.super_square b.super_square (with_super_square b) _ refl (λ xs. refl)
by_settings b registration P call (NesTriangle p) = call _ _ Nes.nes_triangle b.nes (with_nes b) _ refl (λ xs. refl)
by_settings b registration P call (StringSynth f g) = call _ _ Strings.string_synth b.string (with_string b) _ refl (λ xs. refl)
by_settings b registration P call (Classic p) = call _ _ Classics.classic b.classic (with_classic b) _ refl (λ xs. refl)

-- and what a record makes
pub by_record : (b : Bank) (p : List ℕ) (P : Made → Type 0) → P (refused_record b)
    → ((S A : Type 0) (o : Oscillator S A) (s : S) (put : S → Bank) (a : A) → put s ≡ b → o.buffer a ≡ silence (job_of p).block_length → P (played put (call_of o s a))) → P (record_played b p)
unfolding record_played
by_record b p P bad call = go (job_of p).asked
  where
    zeros : List Float
    zeros = silence (job_of p).block_length

    go : (asked : Option Settings) → P (asked_played b asked (job_of p).registration zeros)
    go None = bad
    go (Some t) = by_settings b (job_of p).registration (λ (f : List Float → Made). P (f zeros)) (λ S A o s put lent same long. call S A o s put (lent zeros) same (long zeros)) t
