-- The parts of the configuration are the definition's.
use native.Mathlib.Omega.{arith}
use Rattle.spi_bus.specs.Spi.{spi_bits}
use Rattle.spi_bus.proofs.put_exchange.Goals as goal

pub put_bits-requires : goal.put_bits-requires
unfolding spi_bits
put_bits-requires c =
    (omega (arith, c.bits_of-n.ensures, c.requires.0), (c.clock_polarity-polarity.ensures.1, rw (c.clock_phase-phase.ensures, c.clock_polarity-polarity.ensures.0, c.high_first-high.ensures, c.bits_of-n.ensures) c.requires.1))

pub returns : goal.returns
unfolding spi_bits
returns c =
    rw (c.clock_phase-phase.ensures, c.clock_polarity-polarity.ensures.0, c.high_first-high.ensures, c.bits_of-n.ensures) at c.put_bits.ensures
