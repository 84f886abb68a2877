-- The list is read, and parsed.
use Rattle.std.proofs.Common.{arith}
use Rattle.script.proofs.Parsing.{parses_list}
use Rattle.script.proofs.statements.list_at.Goals as goal

pub returns : goal.returns
returns c =
    let a = c.args in rw c.list_parsed.ensures (parses_list a.text.now a.kind a.at {o = a.body.now} (omega arith) c.list-r.ensures)
