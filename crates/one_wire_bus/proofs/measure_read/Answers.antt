-- Eight slots are so many actions.
use Rattle.lines.specs.Lines.{for_each}
use Rattle.one_wire_bus.proofs.measure_read.Goals as goal

pub returns : goal.returns
unfolding for_each
returns c =
    c.eight.ensures
