-- What a rejected command decides (01, "What goes in and comes out"): its code is returned; by 41 unconfigured "it returns 40, which is
-- sent once, reports or not (H)".
use Rattle.std.specs.Prelude.{ℕ, Bool, true, false, cond, ◌&&◌, eqb}
use Rattle.commands.specs.declared.Command.{Command}
use Rattle.commands.specs.declared.Command.TheVariants as k
use Rattle.commands.specs.declared.SpiCommand.{SpiCommand}
use Rattle.commands.specs.declared.SpiCommand.TheVariants as p
use Rattle.decisions.specs.Decisions.{Decision, Returns, ReturnsAndSends, sends}

abbrev pub spi_reads_configuration : SpiCommand → Bool
spi_reads_configuration p.LoadConfig = false
spi_reads_configuration p.ReadConfig = true
spi_reads_configuration p.LoadSize = false
spi_reads_configuration p.ReadSize = false
spi_reads_configuration (p.LoadPacket exchange) = false
spi_reads_configuration p.ReadPacket = false
spi_reads_configuration p.StartExchange = false
spi_reads_configuration (p.DriveSs verb) = false
spi_reads_configuration p.ReadSs = false
spi_reads_configuration p.ReadLow = false
spi_reads_configuration p.ExchangeAndRead = false

abbrev pub reads_configuration : Command → Bool
reads_configuration (k.Common c) = false
reads_configuration (k.Extended c) = false
reads_configuration (k.I2c c) = false
reads_configuration (k.Spi c) = spi_reads_configuration c
reads_configuration (k.OneWire c) = false

abbrev pub rejected_clause : Command → ℕ → Decision
rejected_clause c code = cond (eqb code 0x40 && reads_configuration c) (sends (ReturnsAndSends code)) (sends (Returns code))
