-- What an argument is by its bytes, beside a list of a program's options. Which arguments there are, only the system knows.
use Rattle.std.specs.Prelude.{ℕ, ◌≡◌, Bool, true, cond, List, [], ◌∷◌, ◌⊎◌, eqb, get_or}
use Rattle.std.specs.List.{onto_first}

-- the words of a list, each one but the last followed by a space
unfoldable pub split_at_spaces : List ℕ → List (List ℕ)
split_at_spaces [] = []
split_at_spaces (b ∷ bs) = cond (eqb b 0x20) ([] ∷ split_at_spaces bs) (onto_first b (split_at_spaces bs))

-- a word is one of these
unfoldable pub Among : List ℕ → List (List ℕ) → Type 0
Among w [] = ⊥
Among w (v ∷ vs) = (v ≡ w) ⊎ Among w vs

-- an option starts with `-`
abbrev pub is_option : List ℕ → Bool
is_option w = eqb (get_or w 0 0) 0x2D

-- what makes an argument neither a name nor one of the options
abbrev pub IsUnknown : List ℕ → List ℕ → Type 0
IsUnknown options w = (is_option w ≡ true) × (Among w (split_at_spaces options) → ⊥)
