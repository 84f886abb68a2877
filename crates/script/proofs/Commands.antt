-- Each code of the one list is found in the other, by computation. Assumes nothing.
use Prim.Native.Nat.{ℕ}
use mathlib.Core.Path.{◌≡◌, refl, sym, ◌∙◌, ap, subst}
use mathlib.Core.Bool.{Bool, true, false, ◌&&◌, ◌||◌, false≢true, and-eq-true_iff}
use mathlib.Core.List.{List, [], ◌∷◌, Memᴰ}
use lib.Dec.{T, eqb, eqb→eq}
use Rattle.grammar.specs.Grammar.{commands, extended_commands}
use Rattle.grammar.proofs.Lookups.{any_of}
use Rattle.script.specs.Commands.{CommandsNamed}

-- each of xs is one of ys
abbrev among : List ℕ → List ℕ → Bool
among [] ys = true
among (x ∷ xs) ys = any_of x ys && among xs ys

found : (b : ℕ) (ys : List ℕ) → any_of b ys ≡ true → Memᴰ b ys
found b [] e = absurd (false≢true e)
found b (y ∷ ys) e = go (eqb b y) refl e (found b ys)
  where
    go : (t : Bool) → eqb b y ≡ t → t || any_of b ys ≡ true → (any_of b ys ≡ true → Memᴰ b ys) → Memᴰ b (y ∷ ys)
    go true q p r = Memᴰ.head (eqb→eq b y (subst T (sym q) tt))
    go false q p r = Memᴰ.tail (r p)

carry : {b : ℕ} {xs : List ℕ} (ys : List ℕ) → among xs ys ≡ true → Memᴰ b xs → Memᴰ b ys
carry {b} ys e (Memᴰ.head {x = x} {xs = xs} q) = found b ys (ap (λ (c : ℕ). any_of c ys) q ∙ ((and-eq-true_iff (any_of x ys) (among xs ys)).0 e).0)
carry {b} ys e (Memᴰ.tail {x = x} {xs = xs} m) = carry ys ((and-eq-true_iff (any_of x ys) (among xs ys)).0 e).1 m

pub commands_named : CommandsNamed
unfolding commands extended_commands
commands_named = record { first = λ b. (carry _ refl, carry _ refl); after_1d = λ b. (carry _ refl, carry _ refl) }
