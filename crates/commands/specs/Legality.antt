-- Which commands are legal in a state, and the code that rejects each other one (01): no other definition says which code rejects a
-- command. What a rejected command then decides stands in decisions/specs/Rejections.antt, what a byte that is no command's in Events.antt.
use Rattle.std.specs.Prelude.{ℕ, Bool, true, false, not, cond, ◌&&◌, Option, Some, None, Result, Ok, Err, ⊤}
use Rattle.codes.specs.Codes.{no_configuration, unknown_command, wrong_interface}
use Rattle.registers.specs.Registers.{i2c_selected, spi_selected, one_wire_selected}
use Rattle.commands.specs.Commands.{Command}
use Rattle.commands.specs.declared.Command.TheVariants as k
use Rattle.commands.specs.declared.SpiCommand.{SpiCommand}
use Rattle.commands.specs.declared.SpiCommand.TheVariants as p

-- a command that 01 lists, after 1D or not; "any other byte" is none
abbrev pub is_listed : Option Command → Bool
is_listed (Some c) = true
is_listed None = false

-- a common command, or one of the interface that is selected
abbrev pub is_selected : ℕ → Option Command → Bool
is_selected flags (Some (k.Common c)) = true
is_selected flags (Some (k.Extended c)) = true
is_selected flags (Some (k.I2c c)) = i2c_selected flags
is_selected flags (Some (k.Spi c)) = spi_selected flags
is_selected flags (Some (k.OneWire c)) = one_wire_selected flags
is_selected flags None = false

-- "41 .. unconfigured, it returns 40"; "44, 46, 4B, 4C (H) unconfigured return 40"
abbrev pub spi_needs_configuration : SpiCommand → Bool
spi_needs_configuration p.LoadConfig = false
spi_needs_configuration p.ReadConfig = true
spi_needs_configuration p.LoadSize = false
spi_needs_configuration p.ReadSize = false
spi_needs_configuration (p.LoadPacket exchange) = true
spi_needs_configuration p.ReadPacket = false
spi_needs_configuration p.StartExchange = true
spi_needs_configuration (p.DriveSs verb) = false
spi_needs_configuration p.ReadSs = false
spi_needs_configuration p.ReadLow = false
spi_needs_configuration p.ExchangeAndRead = true

abbrev pub needs_configuration : Option Command → Bool
needs_configuration (Some (k.Common c)) = false
needs_configuration (Some (k.Extended c)) = false
needs_configuration (Some (k.I2c c)) = false
needs_configuration (Some (k.Spi c)) = spi_needs_configuration c
needs_configuration (Some (k.OneWire c)) = false
needs_configuration None = false

-- "any other byte: 80"; "A command that 01 lists for an interface not selected returns the new device code 84" (02, Ask 1);
-- unconfigured, 40
abbrev pub legality_of : ℕ → Bool → Option Command → Result ⊤ ℕ
legality_of flags configured c =
    cond (not (is_listed c)) (Err unknown_command)
    (cond (not (is_selected flags c)) (Err wrong_interface)
    (cond (needs_configuration c && not configured) (Err no_configuration) (Ok tt)))
