-- The row's entry in the column of codes.
use Rattle.std.proofs.Common.{arith, sym}
use lib.ListN.{get_or-eq_default}
use Rattle.names.specs.Names.{code_at, codes}
use Rattle.names.proofs.Rows.{code_in}
use Rattle.names.proofs.code.Goals as goal

pub returns-then-row-lt-ROWS : goal.returns-then-row-lt-ROWS
returns-then-row-lt-ROWS c =
    code_in c.args.row _ (omega arith)

pub returns-else-row-lt-ROWS : goal.returns-else-row-lt-ROWS
unfolding code_at
returns-else-row-lt-ROWS c =
    sym (get_or-eq_default codes 0 {n = c.args.row} (omega arith))
