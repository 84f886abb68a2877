-- By the next word.
use Rattle.script.specs.Statements.{statement_at}
use Rattle.script.proofs.statements.statement.Goals as goal

pub returns : goal.returns
unfolding statement_at
returns c =
    rw c.word_at.ensures at c.statement_by.ensures
