-- With 1D in front or without.
use mathlib.Core.Path.{sym, ◌∙◌}
use Rattle.script.proofs.statements.put_opening.Goals as goal

pub returns-then-extended : goal.returns-then-extended
returns-then-extended c =
    rw (sym c.extended.ensures ∙ c.if-extended.true) (rw c.code-code.ensures at c.put_bytes.ensures)

pub returns : goal.returns
returns c =
    rw (sym c.extended.ensures ∙ c.if-extended.false) (rw c.code-code.ensures at c.put_bytes-2.ensures)
