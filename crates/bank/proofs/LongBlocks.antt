-- A block of more than 4,096 samples is refused whatever it holds and however long it is, so that 4,097 samples stand for any. Assumes nothing.
use mathlib.Core.Path.{◌≡◌, refl, sym, ap, ◌∙◌}
use mathlib.Core.Bool.{Bool, true, false}
use mathlib.Core.List.{List}
use Prim.Native.Nat.{ℕ, zero, suc, ◌≤◌, ◌<◌}
use native.Mathlib.Omega.{arith}
use borrow.Author.Tests.{leb-true, leb-false}
use lib.Dec.{leb}
use lib.ListN.{length, take, length-replicate}
use lib.Ieee.{Float}
use Rattle.floats.specs.F32.{zero32}
use Rattle.jobs.specs.declared.Settings.{Settings}
use Rattle.block.proofs.Oscillators.{long_refused}
use Rattle.bank.specs.declared.Bank.{Bank}
use Rattle.bank.specs.Bank.{Made, played, settings_played, silence}
use Rattle.bank.specs.Private.{lent_of}
use Rattle.bank.proofs.EachKind.{by_settings}

long_same : (b : Bank) (registration xs ys : List Float) → 4096 < length xs → 4096 < length ys → (t : Settings) → settings_played b t registration xs ≡ settings_played b t registration ys
long_same b registration xs ys p q =
    by_settings b registration (λ (f : List Float → Made). f xs ≡ f ys)
    (λ S A o s put lent same long. ap (played put) (long_refused o s (lent xs) (rw (long xs) p)) ∙ sym (ap (played put) (long_refused o s (lent ys) (rw (long ys) q))))

take_silence : (n m : ℕ) → n ≤ m → take n (silence m) ≡ silence n
take_silence zero m h = refl
take_silence (suc n) zero h = absurd (omega arith)
take_silence (suc n) (suc m) h = rw (take_silence n m (omega arith))

-- what a buffer of m zeros lends to a record of n samples
pub lent_same : (b : Bank) (s : Settings) (registration : List Float) (n m : ℕ) → m ≡ 4097 → settings_played b s registration (take (lent_of n) (silence m)) ≡ settings_played b s registration (silence n)
lent_same b s registration n m e = go (leb n 4097) refl
  where
    go : (t : Bool) → leb n 4097 ≡ t → settings_played b s registration (take (lent_of n) (silence m)) ≡ settings_played b s registration (silence n)
    go true h = let l : n ≤ m = omega (arith, leb-true n 4097 h) in rw (h, take_silence n m l)
    go false h =
        let l : 4097 < n = leb-false n 4097 h in
        let q : take 4097 (silence m) ≡ silence m = rw (← e) (take_silence m m (omega arith)) in
        rw (h, q) (long_same b registration (silence m) (silence n) (omega (arith, length-replicate m zero32)) (omega (arith, length-replicate n zero32)) s)

pub lent_most : (n : ℕ) → lent_of n ≤ 4097
lent_most n = go (leb n 4097) refl
  where
    go : (t : Bool) → leb n 4097 ≡ t → lent_of n ≤ 4097
    go true h = rw h (leb-true n 4097 h)
    go false h = rw h (omega arith)

-- as the code lends it
pub lent_part : (b : Bank) (s : Settings) (registration : List Float) (n e m : ℕ) → m ≡ 4097 → e ≡ lent_of n → settings_played b s registration (take e (silence m)) ≡ settings_played b s registration (silence n)
lent_part b s registration n e m q h = rw h (lent_same b s registration n m q)
