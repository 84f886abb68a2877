-- Every command that 01 lists, in 01's order: one type, and its tables by the byte, between commands and after 1D.
use Rattle.std.specs.Prelude.{ℕ, Bool, true, false, List, [], ◌∷◌, ◌++◌, Option, Some, None}
use Rattle.codes.specs.Tables.{Entry, ◌is◌, lookup}
use Rattle.wire.specs.Action.{drive_low, drive_high, wait_microseconds, wait_milliseconds, port_b, port_c, port_d}
use Rattle.registers.specs.declared.Bit.TheVariants.{Three, Four, Five}
use Rattle.registers.specs.declared.PortRegister.TheVariants as r
use Rattle.commands.specs.declared.CommonCommand.{CommonCommand}
use Rattle.commands.specs.declared.CommonCommand.TheVariants as m
use Rattle.commands.specs.declared.ExtendedCommand.{ExtendedCommand}
use Rattle.commands.specs.declared.ExtendedCommand.TheVariants as x
use Rattle.commands.specs.declared.I2cCommand.{I2cCommand}
use Rattle.commands.specs.declared.I2cCommand.TheVariants as i
use Rattle.commands.specs.declared.SpiCommand.{SpiCommand}
use Rattle.commands.specs.declared.SpiCommand.TheVariants as p
use Rattle.commands.specs.declared.OneWireCommand.{OneWireCommand}
use Rattle.commands.specs.declared.OneWireCommand.TheVariants as q
pub use Rattle.commands.specs.declared.Command.{Command}
pub use Rattle.commands.specs.declared.Command.TheVariants as k

-- the level that a pulse begins with
abbrev pub up : Bool
up = true

abbrev pub down : Bool
down = false

-- A ROW'S MEANING by its section
abbrev pub common : CommonCommand → Option Command
common c = Some (k.Common c)

abbrev pub extended : ExtendedCommand → Option Command
extended c = Some (k.Extended c)

abbrev pub i2c : I2cCommand → Option Command
i2c c = Some (k.I2c c)

abbrev pub spi : SpiCommand → Option Command
spi c = Some (k.Spi c)

abbrev pub one_wire : OneWireCommand → Option Command
one_wire c = Some (k.OneWire c)

-- 01, "Registers and common commands"
abbrev pub common_table : List (Entry (Option Command))
common_table =
    0x00 is common m.ResetDevice ∷ 0x01 is common m.SelectI2c ∷ 0x02 is common m.SelectSpi
    ∷ 0x03 is common m.SelectOneWire ∷ 0x04 is common m.ReadError ∷ 0x05 is common m.SaveToEprom
    ∷ 0x06 is common m.ReadFromEprom ∷ 0x07 is common (m.SetReports true) ∷ 0x08 is common (m.SetReports false)
    ∷ 0x09 is common (m.SetAutoload true) ∷ 0x0A is common (m.SetAutoload false)
    ∷ 0x0B is common (m.SetupPort r.Ddrb) ∷ 0x0C is common (m.ReadPort r.Ddrb)
    ∷ 0x0D is common (m.SetupPort r.Portb) ∷ 0x0E is common (m.ReadPort r.Portb)
    ∷ 0x0F is common (m.SetupPort r.Ddrc) ∷ 0x10 is common (m.ReadPort r.Ddrc)
    ∷ 0x11 is common (m.SetupPort r.Portc) ∷ 0x12 is common (m.ReadPort r.Portc)
    ∷ 0x13 is common (m.SetupPort r.Ddrd) ∷ 0x14 is common (m.ReadPort r.Ddrd)
    ∷ 0x15 is common (m.SetupPort r.Portd) ∷ 0x16 is common (m.ReadPort r.Portd) ∷ 0x17 is common (m.ReadPins port_b)
    ∷ 0x18 is common (m.ReadPins port_c) ∷ 0x19 is common (m.ReadPins port_d) ∷ 0x1A is common m.ReadFlags
    ∷ 0x1B is common m.ReadVersion ∷ 0x1C is common m.SetIog ∷ 0x1D is common m.DoExtended
    ∷ 0x1E is common m.ReadSerial ∷ []

-- after 1D; 00 and 04 to 07 are left out: unknown here (H)
abbrev pub extended_table : List (Entry (Option Command))
extended_table =
    0x01 is extended (x.Pulse r.Portc Five up wait_microseconds 1)
    ∷ 0x02 is extended (x.Pulse r.Portd Three up wait_microseconds 1)
    ∷ 0x03 is extended (x.Pulse r.Portd Four down wait_microseconds 1)
    ∷ 0x08 is extended (x.Pulse r.Portd Four down wait_milliseconds 25)
    ∷ 0x09 is extended (x.Pulse r.Portd Four down wait_milliseconds 2)
    ∷ 0x0A is extended (x.SetBit r.Portd Five true) ∷ 0x0B is extended (x.SetBit r.Portd Five false)
    ∷ 0x0C is extended (x.SetBit r.Ddrd Five true) ∷ 0x0D is extended (x.SetBit r.Ddrd Five false)
    ∷ 0x0E is extended x.LoadCycles ∷ 0x0F is extended x.ReadCycles ∷ []

-- 01, "I2C"; a read carries its answering bit, "low for 23, release for 24"
abbrev pub i2c_table : List (Entry (Option Command))
i2c_table =
    0x20 is i2c i.SendStart ∷ 0x21 is i2c i.SendStop ∷ 0x22 is i2c i.SendByte ∷ 0x23 is i2c (i.ReadByte 0)
    ∷ 0x24 is i2c (i.ReadByte 1) ∷ 0x25 is i2c (i.DriveCs drive_low) ∷ 0x26 is i2c (i.DriveCs drive_high)
    ∷ 0x27 is i2c i.ReadCs ∷ []

-- 01, "SPI"; a load carries whether an exchange follows
abbrev pub spi_table : List (Entry (Option Command))
spi_table =
    0x40 is spi p.LoadConfig ∷ 0x41 is spi p.ReadConfig ∷ 0x42 is spi p.LoadSize ∷ 0x43 is spi p.ReadSize
    ∷ 0x44 is spi (p.LoadPacket false) ∷ 0x45 is spi p.ReadPacket ∷ 0x46 is spi p.StartExchange
    ∷ 0x47 is spi (p.DriveSs drive_low) ∷ 0x48 is spi (p.DriveSs drive_high) ∷ 0x49 is spi p.ReadSs
    ∷ 0x4A is spi p.ReadLow ∷ 0x4B is spi p.ExchangeAndRead ∷ 0x4C is spi (p.LoadPacket true) ∷ []

-- 01, "1-Wire"
abbrev pub one_wire_table : List (Entry (Option Command))
one_wire_table =
    0x60 is one_wire q.SendReset ∷ 0x61 is one_wire q.SendByte ∷ 0x62 is one_wire q.ReadByte
    ∷ 0x63 is one_wire q.SendBit ∷ 0x64 is one_wire q.ReadBit ∷ 0x65 is one_wire q.LoadTimings
    ∷ 0x66 is one_wire q.ReadTimings ∷ 0x67 is one_wire q.SendStrong ∷ 0x68 is one_wire q.ReleaseDq
    ∷ 0x69 is one_wire (q.PulsePb7 wait_microseconds 580) ∷ 0x6A is one_wire (q.PulsePb7 wait_milliseconds 110) ∷ []

abbrev pub command_table : List (Entry (Option Command))
command_table = common_table ++ i2c_table ++ spi_table ++ one_wire_table

-- the command of a byte between commands, if 01 lists one
abbrev pub command_of : ℕ → Option Command
command_of b = lookup None b command_table

-- "1D returns 00; the next byte is extended"
abbrev pub extended_command_of : ℕ → Option Command
extended_command_of b = lookup None b extended_table
