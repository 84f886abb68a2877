-- The number and the count, then what is held, then the drop.
use borrow.Author.Rules.{rules}
use Rattle.wire.proofs.Buffers.{written_append}
use Rattle.state_bytes.proofs.encoding.put_wait.Goals as goal

pub returns : goal.returns
returns c =
    record {
      wrote = rw (← c.mark.ensures, ← c.wait_left.ensures, ← c.wait_code.ensures) (written_append _ _ _ _ (written_append _ _ _ _ c.put_bytes-a.ensures c.put_bytes-b.ensures) c.put_bytes.ensures);
      sized = search rules;
    }
