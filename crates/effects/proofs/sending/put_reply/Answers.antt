-- No byte, and a code before the packet register's low bytes.
use Rattle.wire.proofs.Buffers.{written_none, written_append, placed}
use Rattle.effects.proofs.sending.put_reply.Goals as goal

pub returns-in-Empty : goal.returns-in-Empty
returns-in-Empty c =
    rw c.in-Empty.is (written_none _ 0)

pub returns-in-OneThenLow : goal.returns-in-OneThenLow
returns-in-OneThenLow c =
    rw (c.in-OneThenLow.is, ← c.bits_of-bits.ensures) (written_append _ _ _ _ c.put_bytes-at.ensures (placed c.put_low-in-OneThenLow.ensures))
