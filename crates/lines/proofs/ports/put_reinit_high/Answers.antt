-- The line after the ports.
use Rattle.lines.proofs.Rows.{then}
use Rattle.lines.proofs.ports.put_reinit_high.Goals as goal

pub returns : goal.returns
returns c =
    then c.put_reinit-at.ensures c.put_action.ensures
