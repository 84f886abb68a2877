-- The commands of SPI (01, "SPI"), where they are legal.
use Rattle.std.specs.Prelude.{ℕ}
use Rattle.packet.specs.Packet.{packet_bytes}
use Rattle.wire.specs.Action.{ss}
use Rattle.registers.specs.Registers.{bits_of}
use Rattle.registers.specs.declared.Operand.TheVariants as o
use Rattle.registers.specs.declared.Wait.TheVariants as v
use Rattle.signals.specs.declared.Waveform.TheVariants as w
use Rattle.decisions.specs.Decisions.{Decision, ReturnsThenLow, Sends, SendsPacket, SendsLow, SendsLevel, decision, sends, performs, awaits}
use Rattle.decisions.specs.declared.Change.TheVariants as c
use Rattle.commands.specs.declared.SpiCommand.{SpiCommand}
use Rattle.commands.specs.declared.SpiCommand.TheVariants as k

-- under CONFIG_SPI and PAKET_SIZE
abbrev pub spi_clause : ℕ → ℕ → SpiCommand → Decision
spi_clause config size k.LoadConfig = awaits (v.One o.ToConfig)
spi_clause config size k.ReadConfig = sends (Sends config)
spi_clause config size k.LoadSize = awaits (v.One o.ToSize)
spi_clause config size k.ReadSize = sends (Sends (bits_of size))
-- 44; and 4C, whose packet an exchange follows
spi_clause config size (k.LoadPacket exchange) = awaits (v.Packet (packet_bytes (bits_of size)) exchange)
spi_clause config size k.ReadPacket = sends SendsPacket
spi_clause config size k.StartExchange = performs w.Exchange
spi_clause config size (k.DriveSs verb) = performs (w.Line verb ss)
spi_clause config size k.ReadSs = decision c.Nothing (w.SampleLine ss) SendsLevel
spi_clause config size k.ReadLow = sends SendsLow
-- "4B is 46, then 4A"
spi_clause config size k.ExchangeAndRead = decision c.Nothing w.Exchange ReturnsThenLow
