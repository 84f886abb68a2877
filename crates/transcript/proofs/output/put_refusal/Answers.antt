-- The number and the place, low bytes first.
use Rattle.transcript.proofs.output.put_refusal.Goals as goal

pub returns : goal.returns
returns c =
    rw (← c.from-n.ensures) c.put_record.ensures
