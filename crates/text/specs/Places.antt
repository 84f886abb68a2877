-- Where a place of a text stands.
use Rattle.std.specs.Prelude.{ℕ, suc, cond, List, [], ◌∷◌, eqb, take}
pub use Rattle.text.specs.declared.Position.{Position}

-- its line and its column, both from 1
unfoldable pub position_from : ℕ → ℕ → List ℕ → Position
position_from line column [] = record { line = line; column = column }
position_from line column (b ∷ bs) = cond (eqb b 0x0A) (position_from (suc line) 1 bs) (position_from line (suc column) bs)

unfoldable pub position_of : List ℕ → ℕ → Position
position_of t p = position_from 1 1 (take p t)
