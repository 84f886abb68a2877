-- Texts in tables, padded with blanks to one width.
use Rattle.std.specs.Prelude.{ℕ, zero, suc, cond, List, [], ◌∷◌, eqb, get_or, length, replicate, take}
use Prim.Native.Char.{code as char_code}
use Prim.Native.String.{String, [] as []ᵀ, ◌∷◌ as ◌∷ᵀ◌}

-- the bytes of a text
abbrev pub bytes : String → List ℕ
bytes []ᵀ = []
bytes (c ∷ᵀ s) = char_code c ∷ bytes s

abbrev pub blanks : ℕ → List ℕ
blanks n = replicate n 0x20

-- padded with blanks to so many bytes
abbrev pub padded : ℕ → List ℕ → List ℕ
padded n [] = blanks n
padded zero (x ∷ xs) = x ∷ xs
padded (suc n) (x ∷ xs) = x ∷ padded n xs

-- how many of the first n bytes there are without the blanks at their end
unfoldable pub size_within : List ℕ → ℕ → ℕ
size_within text zero = 0
size_within text (suc n) = cond (eqb (get_or text n 0) 0x20) (size_within text n) (suc n)

-- a text without the blanks at its end
abbrev pub trimmed_of : List ℕ → List ℕ
trimmed_of text = take (size_within text (length text)) text
