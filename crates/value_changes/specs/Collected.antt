-- Text collected in a lent buffer on its way out: the buffer, and how much of it is collected.
use Rattle.std.specs.Prelude.{ℕ, ◌+◌, cond, List, [], ◌∷◌, length}
use Rattle.wire.specs.Buffer.{overwrite, fits_in}
use Rattle.value_changes.specs.declared.Collected.{Collected}

-- what the program collects in: the buffer's bytes and the count
abbrev pub contents : Collected → List ℕ × ℕ
contents c = (c.text.now, c.used)

-- A ROW MORE stands after what is collected; where it does not fit, that and the row go out, and nothing is collected
abbrev pub collect : List ℕ × ℕ → List ℕ → List ℕ × ℕ
collect c row = cond (fits_in (length c.0) c.1 (length row)) (overwrite c.0 c.1 row, c.1 + length row) (c.0, 0)

-- rows, one after another
abbrev pub collect_all : List ℕ × ℕ → List (List ℕ) → List ℕ × ℕ
collect_all c [] = c
collect_all c (row ∷ rows) = collect_all (collect c row) rows
