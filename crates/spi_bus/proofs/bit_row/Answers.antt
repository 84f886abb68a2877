-- By the phase, the row of the definition.
use Rattle.spi_bus.specs.Spi.{spi_bit}
use Rattle.spi_bus.proofs.bit_row.Goals as goal

pub returns-then-phase : goal.returns-then-phase
unfolding spi_bit
returns-then-phase c =
    rw (c.if-phase.true, c.driven-away.ensures, c.driven-back.ensures, c.driven-data.ensures, c.sampled-sample.ensures)

pub returns-else-phase : goal.returns-else-phase
unfolding spi_bit
returns-else-phase c =
    rw (c.if-phase.false, c.driven-away.ensures, c.driven-back.ensures, c.driven-data.ensures, c.sampled-sample.ensures)
