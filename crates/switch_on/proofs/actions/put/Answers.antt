-- The ports, and then CS or SS.
use Rattle.lines.proofs.Rows.{then}
use Rattle.switch_on.proofs.actions.put.Goals as goal

pub returns : goal.returns
returns c =
    then c.put_ports-at.ensures c.put_select.ensures
