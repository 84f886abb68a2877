-- How many samples rows of actions take, and that the same samples give the same waveform. Assumes nothing.
use Prim.Native.Nat.{ℕ, zero, suc, ◌+◌, ◌*◌}
use mathlib.Core.Path.{◌≡◌, refl, ap}
use mathlib.Core.Bool.{Bool, true, false, cond}
use mathlib.Core.List.{List, [], ◌∷◌}
use native.Mathlib.Omega.{arith}
use lib.Dec.{eqb}
use lib.ListN.{length}
use Rattle.wire.specs.Action.{Action, drive_low}
use Rattle.wire.specs.Sample.{level_of, samples_in, samplings, SameFrom}
use Rattle.wire.proofs.Samples.{samplings_append, first_same, rest_same}
use Rattle.lines.specs.Lines.{verb_for, for_each, levels, byte_of}
use Rattle.lines.specs.Waves.{LineWave, once, eight, ReadsUsed}

-- the verb for a bit samples only if the verb for 1 does
pub bit_samples : (one bit : ℕ) → samples_in one ≡ 0 → samples_in (verb_for one bit) ≡ 0
bit_samples one bit h = go (eqb bit 0)
  where
    go : (t : Bool) → samples_in (cond t drive_low one) ≡ 0
    go true = refl
    go false = h

-- rows that take n samples each
pub each_samples : (f : ℕ → List Action) (n : ℕ) → ((x : ℕ) → samplings (f x) ≡ n) → (xs : List ℕ) → samplings (for_each f xs) ≡ length xs * n
unfolding for_each samplings
each_samples f n h [] = omega arith
each_samples f n h (x ∷ xs) = omega (arith, samplings_append (f x) (for_each f xs), h x, each_samples f n h xs)

pub levels_same : (n : ℕ) (ss us : List ℕ) (m k : ℕ) → SameFrom n ss m us k → levels ss m n ≡ levels us k n
unfolding levels
levels_same zero ss us m k h = refl
levels_same (suc n) ss us m k h =
    let e = first_same n ss us m k h in
    let t = levels_same n ss us (m + 1) (k + 1) (rest_same n ss us m k h) in
    λ i. level_of (e i) ∷ t i

-- THE SAME SAMPLES

byte_same : (as' : List Action) (n : ℕ) {x y : ℕ} → x ≡ y → ◌≡◌ {A = LineWave} (record { actions = as'; used = n; byte = x }) (record { actions = as'; used = n; byte = y })
byte_same as' n e = λ i. record { actions = as'; used = n; byte = e i }

pub once_same : (as' : List Action) (ss : List ℕ) (m : ℕ) (us : List ℕ) (k : ℕ) → ReadsUsed (once as') ss m us k
once_same as' ss m us k h = byte_same as' 1 (first_same 0 ss us m k h)

pub eight_same : (high : Bool) (as' : List Action) (ss : List ℕ) (m : ℕ) (us : List ℕ) (k : ℕ) → ReadsUsed (eight high as') ss m us k
eight_same high as' ss m us k h = byte_same as' 8 (ap (byte_of high) (levels_same 8 ss us m k h))
