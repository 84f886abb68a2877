-- The header, and the body after it.
use Rattle.wire.proofs.Buffers.{written_append}
use Rattle.records.proofs.writing.put_record.Goals as goal

pub returns : goal.returns
returns c =
    written_append _ _ _ _ c.put_head-n.ensures c.put_bytes.ensures
