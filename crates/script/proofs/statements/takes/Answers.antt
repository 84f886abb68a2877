-- The grammar's count for the row's code.
use Rattle.script.proofs.statements.takes.Goals as goal

pub returns : goal.returns
returns c =
    rw (← c.code.ensures, ← c.extended.ensures) c.operands.ensures
