-- The first name from a row on that is the word's is the first of all; the word is padded as the names are.
use Rattle.std.proofs.Common.{◌≡◌, drop}
use Rattle.names.specs.Names.{names, first_where}
use Rattle.text.specs.Named.{has_name, row_named}
use Rattle.text.proofs.named.row_named.Given as goal

abbrev pub invariant-loop-row : goal.invariant-loop-row
invariant-loop-row l = first_where (has_name l.padded) l.row (drop l.row names) ≡ row_named l.word
