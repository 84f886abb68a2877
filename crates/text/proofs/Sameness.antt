-- Rows of bytes that are the same: what a comparison of two rows tells is `same` of them. Assumes nothing.
use Prim.Native.Nat.{ℕ}
use mathlib.Core.Path.{◌≡◌, refl, sym, ap, ◌∙◌}
use mathlib.Core.Bool.{Bool, true, false, false≢true, and-eq-true_iff}
use mathlib.Core.List.{List, [], ◌∷◌}
use borrow.Author.Tests.{eqb-true, eq-eqb}
use lib.Dec.{eqb}
use Rattle.text.specs.Words.{same}

same_self : (a : List ℕ) → same a a ≡ true
unfolding same
same_self [] = refl
same_self (x ∷ xs) = rw (eq-eqb x x refl) (same_self xs)

same_equal : (a b : List ℕ) → same a b ≡ true → a ≡ b
unfolding same
same_equal [] [] e = refl
same_equal [] (y ∷ ys) e = absurd (false≢true e)
same_equal (x ∷ xs) [] e = absurd (false≢true e)
same_equal (x ∷ xs) (y ∷ ys) e =
    let h = (and-eq-true_iff (eqb x y) (same xs ys)).0 e in
    let p = eqb-true x y h.0 in
    let q = same_equal xs ys h.1 in
    λ i. p i ∷ q i

pub same_is : (a b : List ℕ) {r : Bool} → (r ≡ true → a ≡ b) × (a ≡ b → r ≡ true) → r ≡ same a b
same_is a b {r = true} h = sym (ap (λ (x : List ℕ). same a x) (sym (h.0 refl)) ∙ same_self a)
same_is a b {r = false} h = go (same a b) refl
  where
    go : (s : Bool) → same a b ≡ s → false ≡ s
    go true e = h.1 (same_equal a b e)
    go false e = refl
