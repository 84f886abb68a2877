-- The last record, and a cursor that is over.
use Rattle.session.proofs.Playing.{ran_last}
use Rattle.session.proofs.steps.last.Goals as goal

pub returns : goal.returns
returns c =
    ran_last c.args.c.bridge.state.wait _ c.requires c.ended-cursor.ensures c.put_last-written.ensures
