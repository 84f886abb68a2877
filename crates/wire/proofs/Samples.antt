-- Laws of a line's level, and of the samples that actions take. Assumes nothing.
use mathlib.Core.Path.{◌≡◌, refl, sym, ap, ◌∙◌}
use mathlib.Core.Bool.{not}
use mathlib.Core.List.{List, [], ◌∷◌, ◌++◌}
use Prim.Native.Nat.{ℕ, zero, suc, ◌+◌, ◌<◌}
use native.Mathlib.Nat.{add-zero}
use native.Mathlib.Omega.{arith}
use borrow.Author.Tests.{ne_eqb}
use lib.Dec.{eqb}
use mir.Val.{bool_byte}
use Rattle.wire.specs.Action.{Action}
use Rattle.wire.specs.Sample.{byte_at, level_of, samplings, SameFrom}

pub level_bit : (s : ℕ) → level_of s < 2
unfolding level_of
level_bit zero = omega arith
level_bit (suc s) = omega arith

-- .. and as the code has it: 1 for any sample but 0
pub level_byte : (s : ℕ) → bool_byte (not (eqb s 0)) ≡ level_of s
unfolding level_of
level_byte zero = refl
level_byte (suc s) = rw (ne_eqb (suc s) 0 (λ e. omega (arith, e)))

-- SAMPLES TAKEN

pub samplings_append : (as' bs : List Action) → samplings (as' ++ bs) ≡ samplings as' + samplings bs
unfolding samplings
samplings_append [] bs = omega arith
samplings_append (a ∷ as') bs = omega (arith, samplings_append as' bs)

-- THE SAME SAMPLES

pub first_same : (n : ℕ) (ss us : List ℕ) (m k : ℕ) → SameFrom (suc n) ss m us k → byte_at ss m ≡ byte_at us k
first_same n ss us m k h = ap (byte_at ss) (sym (add-zero m)) ∙ h 0 (omega arith) ∙ ap (byte_at us) (add-zero k)

pub rest_same : (n : ℕ) (ss us : List ℕ) (m k : ℕ) → SameFrom (suc n) ss m us k → SameFrom n ss (m + 1) us (k + 1)
rest_same n ss us m k h i l =
    let p : m + 1 + i ≡ m + suc i = omega arith in
    let q : k + suc i ≡ k + 1 + i = omega arith in
    ap (byte_at ss) p ∙ h (suc i) (omega arith) ∙ ap (byte_at us) q
