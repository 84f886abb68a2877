-- The start, but done.
use Rattle.session.proofs.replay.ended.Goals as goal

pub returns : goal.returns
returns c =
    rw c.start-cursor.ensures
