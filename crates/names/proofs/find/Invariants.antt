-- The first row from here on is the first row of all.
use Rattle.std.proofs.Common.{◌≡◌, drop}
use Rattle.names.specs.Names.{codes, first_where, has_code, row_coded}
use Rattle.names.proofs.find.Given as goal

abbrev pub invariant-loop-row : goal.invariant-loop-row
invariant-loop-row l = first_where (has_code l.code l.is_extended) l.row (drop l.row codes) ≡ row_coded l.code l.is_extended
