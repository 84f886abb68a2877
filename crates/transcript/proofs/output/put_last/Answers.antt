-- One byte: whether something is waited for.
use Rattle.transcript.proofs.output.put_last.Goals as goal

pub returns : goal.returns
returns c =
    rw (← c.waits-b.ensures) c.put_record.ensures
