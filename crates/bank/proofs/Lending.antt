-- A record's samples in a lent buffer: what each way leaves. Assumes nothing.
use Rattle.std.specs.Prelude.{Result, Ok, Err}
use mathlib.Core.Path.{◌≡◌, refl, sym, ap}
use mathlib.Core.List.{List, [], ◌++◌}
use Prim.Native.Nat.{◌≤◌, ◌<◌}
use native.Mathlib.Omega.{arith}
use borrow.Author.Tests.{le-leb, lt-leb}
use lib.ListN.{length, drop}
use lib.Ieee.{Float}
use Rattle.bank.specs.declared.Bank.{Bank}
use Rattle.block.specs.declared.refusal.Refusal.{Refusal}
use Rattle.block.specs.declared.refusal.Refusal.TheVariants.{LongBlock, BadRegistration, BadState, BadParam, TooHigh, Drift, BadRecord, BadInput, NoRoom}
use Rattle.block.specs.declared.Counts.{Counts}
use Rattle.block.specs.Calls.{Call, gave}
use Rattle.bank.specs.Bank.{Made, played}
use Rattle.bank.specs.Lent.{handed_back, no_room, handed}
use Rattle.bank.specs.Private.{made_of}

-- what a record leaves where there is room, and where there is none
module _ (b : Bank) (m : Made) (d : List Float) where
  pub with_room : length m.samples ≤ length d → handed b m d ≡ record { bank = m.bank; outcome = m.outcome; buffer = m.samples ++ drop (length m.samples) d }
  unfolding handed
  with_room h = rw (le-leb (length m.samples) (length d) h)

  pub without_room : length d < length m.samples → handed b m d ≡ no_room b d
  unfolding handed
  without_room h = rw (lt-leb (length m.samples) (length d) h)

  pub without_samples : m.samples ≡ [] → handed b m d ≡ record { bank = m.bank; outcome = m.outcome; buffer = d }
  unfolding handed
  without_samples e = rw (e, le-leb 0 (length d) (omega arith))

-- a call on its oscillator's state is the bank's
pub played_is : {S : Type 0} (put : S → Bank) (r : Result Counts Refusal) (s : S) (xs : List Float) {c : Call S} → gave r s xs ≡ c → made_of r (put s) xs ≡ played put c
played_is put r s xs e = ap (played put) e

-- the three ways of the function, where the call left the bank b'
module _ (b b' : Bank) (xs d : List Float) where
  pub refused_way : (e : Refusal) → handed_back (Err e) b' d ≡ handed b (made_of (Err e) b' xs) d
  refused_way e = sym (without_samples b (made_of (Err e) b' xs) d (none e))
    where
      none : (e : Refusal) → (made_of (Err e) b' xs).samples ≡ []
      none LongBlock = refl
      none BadRegistration = refl
      none BadState = refl
      none BadParam = refl
      none TooHigh = refl
      none (Drift i) = refl
      none BadRecord = refl
      none BadInput = refl
      none NoRoom = refl

  pub long_way : (c : Counts) → length d < length xs → handed_back (Err NoRoom) b d ≡ handed b (made_of (Ok c) b' xs) d
  long_way c l = sym (without_room b (made_of (Ok c) b' xs) d l)

  pub room_way : (c : Counts) → length xs ≤ length d → handed_back (Ok c) b' (xs ++ drop (length xs) d) ≡ handed b (made_of (Ok c) b' xs) d
  room_way c l = sym (with_room b (made_of (Ok c) b' xs) d l)
