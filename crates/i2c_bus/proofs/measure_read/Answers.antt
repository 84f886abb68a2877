-- The actions of the rows are so many.
use Rattle.lines.specs.Lines.{for_each}
use Rattle.i2c_bus.proofs.measure_read.Goals as goal

pub returns : goal.returns
unfolding for_each
returns c =
    c.eight.ensures
