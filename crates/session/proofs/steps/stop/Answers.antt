-- The record of the refusal, and a cursor that is over.
use Rattle.session.proofs.Playing.{ran_stop}
use Rattle.session.proofs.steps.stop.Goals as goal

pub returns : goal.returns
returns c =
    ran_stop c.args.why _ _ c.requires c.ended-cursor.ensures c.put_refusal-written.ensures
