-- The EPROM image, the two bytes and the serial number, one after another.
use borrow.Author.Rules.{rules}
use Rattle.wire.proofs.Buffers.{written_append}
use Rattle.state_bytes.proofs.encoding.put_shared.Goals as goal

pub returns : goal.returns
returns c =
    record {
      wrote = written_append _ _ _ _ (written_append _ _ _ _ c.put_bytes-a.ensures c.put_bytes-b.ensures) c.put_bytes.ensures;
      eprom = search rules;
      serial = search rules;
    }
