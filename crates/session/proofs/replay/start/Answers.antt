-- The bridge of the factory start.
use Rattle.session.proofs.replay.start.Goals as goal

pub returns : goal.returns
returns c =
    rw c.factory_start-bridge.ensures
