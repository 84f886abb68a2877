-- A command by its name in a text.
use Rattle.std.specs.Prelude.{ℕ, Bool, cond, List, Option, None, leb, length}
use Rattle.padding.specs.Padding.{padded}
use Rattle.names.specs.Names.{names, name_width, first_where}
use Rattle.text.specs.Words.{same}

-- whether a row has the name, and the row of a name
abbrev pub has_name : List ℕ → ℕ → List ℕ → Bool
has_name w n x = same w x

unfoldable pub row_named : List ℕ → Option ℕ
row_named w = cond (leb (length w) name_width) (first_where (has_name (padded name_width w)) 0 names) None
