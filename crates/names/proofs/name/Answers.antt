-- The row's entry in the column of names.
use Rattle.std.proofs.Common.{arith, sym}
use lib.ListN.{get_or-eq_default}
use Rattle.padding.specs.Padding.{blanks}
use Rattle.names.specs.Names.{name_at, names}
use Rattle.names.proofs.Rows.{name_in}
use Rattle.names.proofs.name.Goals as goal

pub returns-then-row-lt-ROWS : goal.returns-then-row-lt-ROWS
returns-then-row-lt-ROWS c =
    name_in c.args.row _ (omega arith)

pub returns-else-row-lt-ROWS : goal.returns-else-row-lt-ROWS
unfolding name_at
returns-else-row-lt-ROWS c =
    sym (get_or-eq_default names (blanks 24) {n = c.args.row} (omega arith))
