-- By whether the byte is legal, and whether it is 1D between items.
use mathlib.Core.Path.{sym, ap, ◌∙◌}
use Rattle.std.specs.Prelude.{Ok}
use Rattle.grammar.specs.Following.{opening_in}
use Rattle.grammar.proofs.Scans.{rejected, opens, opens_none, accepted}
use Rattle.grammar.proofs.scanning.open_item.Goals as goal

pub returns-then-not-is_legal : goal.returns-then-not-is_legal
returns-then-not-is_legal c =
    let a = c.args in
    rejected (opening_in a.b a.extended) a.c a.b _ (sym c.is_legal.ensures ∙ c.if-not-is_legal.true) c.code_for.ensures

pub returns-then-b-extended : goal.returns-then-b-extended
returns-then-b-extended c =
    let a = c.args in opens a.b a.extended a.c c.if-b-extended.true

pub returns : goal.returns
returns c =
    let a = c.args in
    ap Ok c.advance.ensures
    ∙ accepted (opening_in a.b a.extended) a.c a.b _ _ (sym c.is_legal.ensures ∙ c.if-not-is_legal.false) (opens_none a.b a.extended c.if-b-extended.false) c.operands_of-n.ensures c.change_of-e.ensures
