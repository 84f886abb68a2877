-- What std cuts at spaces are the words of a list that is not empty, less the space after its last one. Assumes nothing.
use Prim.Native.Nat.{ℕ, ◌<◌}
use mathlib.Core.Path.{◌≡◌, refl, ap, ◌∙◌, sym}
use mathlib.Core.Bool.{Bool, true, cond}
use mathlib.Core.List.{List, [], ◌∷◌, ◌++◌}
use mathlib.Core.Logic.{⊎_elim, inl, inr}
use native.Mathlib.Nat.{not-suc-le-zero}
use native.Mathlib.Omega.{arith}
use borrow.Author.Tests.{ne_eqb}
use denote.Ref.{Bor}
use lib.Dec.{eqb}
use lib.ListN.{length}
use Rattle.std.specs.Bool.{Decides}
use Rattle.std.specs.List.{list_any, onto_first, slice_split}
use Rattle.std.specs.Option.{MatchOption, unwrap_or}
use Rattle.std.specs.Prelude.{Option, Some, None}
use Rattle.std.proofs.lemmas.Bool.{or_cases, or_left, or_right}
use Rattle.input.specs.Arguments.{split_at_spaces, Among}

abbrev pub parts : List ℕ → List (List ℕ)
parts = slice_split (λ b. eqb b 0x20)

-- a byte in front of what comes out the same in both ways
one_more : (x : ℕ) (vs ws : List (List ℕ)) → vs ≡ ws → cond (eqb x 0x20) ([] ∷ vs) (onto_first x vs) ≡ cond (eqb x 0x20) ([] ∷ ws) (onto_first x ws)
one_more x vs ws e = ap (λ us. cond (eqb x 0x20) ([] ∷ us) (onto_first x us)) e

ends_in_space : (l : List ℕ) → split_at_spaces (l ++ 0x20 ∷ []) ≡ parts l
unfolding split_at_spaces
ends_in_space [] = refl
ends_in_space (x ∷ l) = one_more x (split_at_spaces (l ++ 0x20 ∷ [])) (parts l) (ends_in_space l)

ends_in_word : (x : ℕ) (l : List ℕ) → ((front : List ℕ) → x ∷ l ≡ front ++ 0x20 ∷ [] → ⊥) → split_at_spaces (x ∷ l) ≡ parts (x ∷ l)
unfolding split_at_spaces
ends_in_word x [] n = rw (ne_eqb x 0x20 (λ p. n [] (ap (λ v. v ∷ []) p))) refl
ends_in_word x (y ∷ l) n = one_more x (split_at_spaces (y ∷ l)) (parts (y ∷ l)) (ends_in_word y l (λ front p. n (x ∷ front) (ap (λ v. x ∷ v) p)))

words_without : (l : List ℕ) → 0 < length l → ((front : List ℕ) → l ≡ front ++ 0x20 ∷ [] → ⊥) → parts l ≡ split_at_spaces l
words_without [] h n = absurd (not-suc-le-zero h)
words_without (x ∷ l) h n = sym (ends_in_word x l n)

-- the words of a list, once the space at its end is stripped
pub words_stripped : (l : Bor (List ℕ)) (r : Option (Bor (List ℕ))) → MatchOption r ((front : List ℕ) → l.now ≡ front ++ 0x20 ∷ [] → ⊥) (λ x. l.now ≡ x.now ++ 0x20 ∷ []) → 0 < length l.now → parts (unwrap_or r l).now ≡ split_at_spaces l.now
words_stripped l None n h = words_without l.now h n
words_stripped l (Some x) e h = sym (ap split_at_spaces e ∙ ends_in_space x.now)

module _ (w : List ℕ) (test : List ℕ → Bool) (decides : (v : List ℕ) → Decides (test v) (v ≡ w)) where
  pub among_from_any : (vs : List (List ℕ)) → list_any test vs ≡ true → Among w vs
  unfolding Among
  among_from_any [] e = absurd (cc e)
  among_from_any (v ∷ vs) e = ⊎_elim (λ p. inl ((decides v).0 p)) (λ q. inr (among_from_any vs q)) (or_cases (test v) (list_any test vs) e)

  pub any_from_among : (vs : List (List ℕ)) → Among w vs → list_any test vs ≡ true
  unfolding Among
  any_from_among [] a = absurd a
  any_from_among (v ∷ vs) (inl p) = or_left (test v) (list_any test vs) ((decides v).1 p)
  any_from_among (v ∷ vs) (inr q) = or_right (test v) (list_any test vs) (any_from_among vs q)

pub among_none : (w l : List ℕ) → length l ≡ 0 → Among w (split_at_spaces l) → ⊥
unfolding Among split_at_spaces
among_none w [] e a = a
among_none w (x ∷ l) e a = absurd (omega (arith, e))
