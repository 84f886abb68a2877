-- Tables by code: what the first entry of a byte's code says.
use Rattle.std.specs.Prelude.{ℕ, cond, List, [], ◌∷◌, eqb}

pub record Entry (A : Type 0) : Type 0 where
  pub code : ℕ
  pub meaning : A

infixl 90 ◌is◌
abbrev pub ◌is◌ : {A : Type 0} → ℕ → A → Entry A
b is x = record { code = b; meaning = x }

abbrev pub lookup : {A : Type 0} → A → ℕ → List (Entry A) → A
lookup unknown b [] = unknown
lookup unknown b (e ∷ es) = cond (eqb b e.code) e.meaning (lookup unknown b es)
