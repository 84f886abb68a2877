-- The grammar's command list and the bridge's tables say the same of every byte: computed over all of them. Assumes nothing.
use Prim.Native.Nat.{ℕ, ◌<◌}
use mathlib.Core.Path.{◌≡◌, refl}
use mathlib.Core.Bool.{Bool, true, false}
use Rattle.grammar.specs.Grammar.{Needs, Common, Selected, Configured, Operands, None, One, Nine, Packet, commands, extended_commands}
use Rattle.grammar.specs.Scanner.{Opening, Unknown, Known, Extension, opening_of, extension_of}
use Rattle.grammar.specs.declared.Interface.TheVariants.{I2C, SPI, OneWire}
use Rattle.grammar.specs.declared.ContextChange.{ContextChange}
use Rattle.grammar.specs.declared.ContextChange.TheVariants.{Keep, Clear, Select, Configure, Resize}
use Rattle.grammar.proofs.Lookups.{values, byte_fact}
use Rattle.codes.proofs.Lookup.{found_all}
use Rattle.std.specs.Prelude.{Option, Some}
use Rattle.std.specs.declared.option.Option.TheVariants as o
use Rattle.commands.specs.Commands.{extended_table, command_table, command_of, extended_command_of}
use Rattle.commands.specs.declared.Command.{Command}
use Rattle.commands.specs.declared.Command.TheVariants as k
use Rattle.commands.specs.declared.CommonCommand.{CommonCommand}
use Rattle.commands.specs.declared.CommonCommand.TheVariants as m
use Rattle.commands.specs.declared.ExtendedCommand.{ExtendedCommand}
use Rattle.commands.specs.declared.ExtendedCommand.TheVariants as x
use Rattle.commands.specs.declared.I2cCommand.{I2cCommand}
use Rattle.commands.specs.declared.I2cCommand.TheVariants as i
use Rattle.commands.specs.declared.SpiCommand.{SpiCommand}
use Rattle.commands.specs.declared.SpiCommand.TheVariants as p
use Rattle.commands.specs.declared.OneWireCommand.{OneWireCommand}
use Rattle.commands.specs.declared.OneWireCommand.TheVariants as w

-- THE ROW OF A COMMAND whose byte is b

abbrev pub row : ℕ → Needs → Operands → ContextChange → Opening
row b n o e = Known (record { code = b; needs = n; operands = o; change = e })

abbrev pub common_opening : ℕ → CommonCommand → Opening
common_opening b m.ResetDevice = row b Common None Clear
common_opening b m.SelectI2c = row b Common None (Select (Some I2C))
common_opening b m.SelectSpi = row b Common None (Select (Some SPI))
common_opening b m.SelectOneWire = row b Common None (Select (Some OneWire))
common_opening b m.ReadError = row b Common None Keep
common_opening b m.SaveToEprom = row b Common None Keep
common_opening b m.ReadFromEprom = row b Common None Keep
common_opening b (m.SetReports on) = row b Common None Keep
common_opening b (m.SetAutoload on) = row b Common None Keep
common_opening b (m.SetupPort r) = row b Common One Keep
common_opening b (m.ReadPort r) = row b Common None Keep
common_opening b (m.ReadPins line) = row b Common None Keep
common_opening b m.ReadFlags = row b Common None Keep
common_opening b m.ReadVersion = row b Common None Keep
common_opening b m.SetIog = row b Common None Keep
common_opening b m.DoExtended = Extension
common_opening b m.ReadSerial = row b Common None Keep

abbrev pub extended_opening : ℕ → ExtendedCommand → Opening
extended_opening b (x.Pulse r t level unit n) = row b Common None Keep
extended_opening b (x.SetBit r t on) = row b Common None Keep
extended_opening b x.LoadCycles = row b Common One Keep
extended_opening b x.ReadCycles = row b Common None Keep

abbrev pub i2c_opening : ℕ → I2cCommand → Opening
i2c_opening b i.SendStart = row b (Selected I2C) None Keep
i2c_opening b i.SendStop = row b (Selected I2C) None Keep
i2c_opening b i.SendByte = row b (Selected I2C) One Keep
i2c_opening b (i.ReadByte answer) = row b (Selected I2C) None Keep
i2c_opening b (i.DriveCs verb) = row b (Selected I2C) None Keep
i2c_opening b i.ReadCs = row b (Selected I2C) None Keep

abbrev pub spi_opening : ℕ → SpiCommand → Opening
spi_opening b p.LoadConfig = row b (Selected SPI) One Configure
spi_opening b p.ReadConfig = row b Configured None Keep
spi_opening b p.LoadSize = row b (Selected SPI) One Resize
spi_opening b p.ReadSize = row b (Selected SPI) None Keep
spi_opening b (p.LoadPacket exchange) = row b Configured Packet Keep
spi_opening b p.ReadPacket = row b (Selected SPI) None Keep
spi_opening b p.StartExchange = row b Configured None Keep
spi_opening b (p.DriveSs verb) = row b (Selected SPI) None Keep
spi_opening b p.ReadSs = row b (Selected SPI) None Keep
spi_opening b p.ReadLow = row b (Selected SPI) None Keep
spi_opening b p.ExchangeAndRead = row b Configured None Keep

abbrev pub one_wire_opening : ℕ → OneWireCommand → Opening
one_wire_opening b w.SendReset = row b (Selected OneWire) None Keep
one_wire_opening b w.SendByte = row b (Selected OneWire) One Keep
one_wire_opening b w.SendBit = row b (Selected OneWire) One Keep
one_wire_opening b w.SendStrong = row b (Selected OneWire) One Keep
one_wire_opening b w.ReadByte = row b (Selected OneWire) None Keep
one_wire_opening b w.ReadBit = row b (Selected OneWire) None Keep
one_wire_opening b w.LoadTimings = row b (Selected OneWire) Nine Keep
one_wire_opening b w.ReadTimings = row b (Selected OneWire) None Keep
one_wire_opening b w.ReleaseDq = row b (Selected OneWire) None Keep
one_wire_opening b (w.PulsePb7 unit n) = row b (Selected OneWire) None Keep

abbrev pub command_opening : ℕ → Command → Opening
command_opening b (k.Common c) = common_opening b c
command_opening b (k.Extended c) = extended_opening b c
command_opening b (k.I2c c) = i2c_opening b c
command_opening b (k.Spi c) = spi_opening b c
command_opening b (k.OneWire c) = one_wire_opening b c

abbrev pub byte_opening : ℕ → Option Command → Opening
byte_opening b o.None = Unknown
byte_opening b (o.Some c) = command_opening b c

-- ALL BYTES, between commands and after 1D

openings : values opening_of 256 0 ≡ values (λ (b : ℕ). byte_opening b (command_of b)) 256 0
unfolding opening_of commands
openings = refl

extensions : values extension_of 256 0 ≡ values (λ (b : ℕ). byte_opening b (extended_command_of b)) 256 0
unfolding extension_of extended_commands
extensions = refl

pub opening_is : (b : ℕ) → b < 256 → opening_of b ≡ byte_opening b (command_of b)
opening_is b h = byte_fact opening_of (λ (b : ℕ). byte_opening b (command_of b)) openings b h

pub extension_is : (b : ℕ) → b < 256 → extension_of b ≡ byte_opening b (extended_command_of b)
extension_is b h = byte_fact extension_of (λ (b : ℕ). byte_opening b (extended_command_of b)) extensions b h

-- a command of a byte between commands, and of one after 1D, or none
abbrev pub is_between : Option Command → Bool
is_between o.None = true
is_between (o.Some (k.Common c)) = true
is_between (o.Some (k.Extended c)) = false
is_between (o.Some (k.I2c c)) = true
is_between (o.Some (k.Spi c)) = true
is_between (o.Some (k.OneWire c)) = true

abbrev pub is_extended : Option Command → Bool
is_extended o.None = true
is_extended (o.Some (k.Common c)) = false
is_extended (o.Some (k.Extended c)) = true
is_extended (o.Some (k.I2c c)) = false
is_extended (o.Some (k.Spi c)) = false
is_extended (o.Some (k.OneWire c)) = false

pub between_is : (b : ℕ) → is_between (command_of b) ≡ true
between_is b = found_all is_between o.None b command_table refl refl

pub extended_is : (b : ℕ) → is_extended (extended_command_of b) ≡ true
extended_is b = found_all is_extended o.None b extended_table refl refl
