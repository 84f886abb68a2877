-- Its first bytes and its operands.
use Rattle.std.proofs.Common.{arith, ◌≡◌, Some}
use Rattle.script.proofs.Parsing.{parses_command}
use Rattle.script.proofs.statements.command.Goals as goal

pub returns : goal.returns
returns c =
    let a = c.args in
    let e : a.row ≡ Some c.in_ok-row.row = c.in_ok-row.ensures.ok_part in
    rw (e, c.command_parsed.ensures) (parses_command a.text.now a.c a.w c.in_ok-row.row {o = a.body.now} (omega arith) c.put_opening-from.ensures c.list-r.ensures)
