-- A row of a table, and the search for one. Assumes nothing.
use Prim.Native.Nat.{ℕ, zero, suc, ◌+◌, ◌<◌}
use native.Mathlib.Numerals.{add-one}
use mathlib.Core.Path.{◌≡◌, refl, sym, ap, ◌∙◌}
use mathlib.Core.Bool.{Bool, true, false, cond}
use mathlib.Core.List.{List, [], ◌∷◌, map}
use native.Mathlib.Nat.{not-suc-le-zero, le_of_suc-le-suc}
use Rattle.std.specs.Prelude.{Option, Some, None}
use lib.ListN.{length, get_or, drop}
use lib.Seq.{drop-cons}
use Rattle.padding.specs.Padding.{blanks}
use Rattle.names.specs.Names.{ExtendedRows, first_where, name_at, code_at}
use Rattle.names.specs.declared.tables.TheConstants.{TABLE}

pub extended_rows : ExtendedRows
extended_rows = refl

module _ {A : Type 0} (test : ℕ → A → Bool) (l : List A) (n : ℕ) (d : A) (h : n < length l) where
  turn : {t : Bool} → test n (get_or l n d) ≡ t → first_where test n (drop n l) ≡ cond t (Some n) (first_where test (suc n) (drop (suc n) l))
  unfolding first_where
  turn e = ap (λ (x : List A). first_where test n x) (drop-cons l n d h) ∙ ap (λ (t : Bool). cond t (Some n) (first_where test (suc n) (drop (suc n) l))) e

  -- a row that passes the test is the first one from itself on
  pub found_here : test n (get_or l n d) ≡ true → first_where test n (drop n l) ≡ Some n
  found_here e = turn e

  -- one that does not is passed over
  pub passed_over : test n (get_or l n d) ≡ false → first_where test n (drop n l) ≡ first_where test (n + 1) (drop (n + 1) l)
  passed_over e = turn e ∙ ap (λ (m : ℕ). first_where test m (drop m l)) (sym (add-one n))

-- within a table, a column's entry is that of the row
in_column : {A B : Type 0} (f : A → B) (l : List A) (n : ℕ) (d : A) (e : B) → n < length l → f (get_or l n d) ≡ get_or (map f l) n e
in_column f [] n d e h = absurd (not-suc-le-zero h)
in_column f (x ∷ xs) zero d e h = refl
in_column f (x ∷ xs) (suc n) d e h = in_column f xs n d e (le_of_suc-le-suc h)

-- the table's columns are those of the list
pub name_in : (n : ℕ) (d : List ℕ × ℕ) → n < 74 → (get_or TABLE n d).0 ≡ name_at n
unfolding name_at
name_in n d h = in_column (λ (r : List ℕ × ℕ). r.0) TABLE n d (blanks 24) h

pub code_in : (n : ℕ) (d : List ℕ × ℕ) → n < 74 → (get_or TABLE n d).1 ≡ code_at n
unfolding code_at
code_in n d h = in_column (λ (r : List ℕ × ℕ). r.1) TABLE n d 0 h
