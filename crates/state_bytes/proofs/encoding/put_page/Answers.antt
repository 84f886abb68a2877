-- The registers, the packet register and the timings, one after another.
use borrow.Author.Rules.{rules}
use Rattle.wire.proofs.Buffers.{written_append}
use Rattle.state_bytes.proofs.encoding.put_page.Goals as goal

pub returns : goal.returns
returns c =
    record {
      wrote = rw (← c.mark.ensures) (written_append _ _ _ _ (written_append _ _ _ _ c.put_bytes-a.ensures c.put_bytes-b.ensures) c.put_bytes.ensures);
      packet = search rules;
      timings = search rules;
    }
