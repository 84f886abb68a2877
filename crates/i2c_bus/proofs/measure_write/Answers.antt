-- The actions of the rows are so many.
use Rattle.packet.specs.Register.{byte_bits}
use Rattle.lines.specs.Lines.{for_each}
use Rattle.i2c_bus.proofs.measure_write.Goals as goal

pub returns : goal.returns
unfolding for_each byte_bits
returns c =
    rw c.once.ensures
