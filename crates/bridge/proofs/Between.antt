-- A byte between commands: each command's clause agrees with its row. Assumes nothing.
use Prim.Native.Nat.{ℕ, ◌+◌, ◌-◌, ◌%◌, ◌≤◌}
use mathlib.Core.Path.{◌≡◌, refl, ap}
use mathlib.Core.Bool.{true, false, false≢true}
use mathlib.Core.List.{List}
use native.Mathlib.Omega.{arith}
use Rattle.grammar.specs.Grammar.{Common, Selected, Configured, Operands, None, One, Nine, Packet}
use Rattle.std.specs.Prelude.{Option, Some}
use Rattle.std.specs.declared.option.Option.TheVariants as option
use Rattle.grammar.specs.Scanner.{going, between}
use Rattle.grammar.specs.declared.Interface.{Interface}
use Rattle.grammar.specs.declared.Interface.TheVariants.{I2C, SPI, OneWire}
use Rattle.grammar.specs.declared.ContextChange.{ContextChange}
use Rattle.grammar.specs.declared.ContextChange.TheVariants.{Keep, Clear, Select, Configure, Resize}
use Rattle.grammar.specs.declared.Place.TheVariants.{Inside}
use Rattle.packet.specs.Packet.{packet_bytes}
use Rattle.registers.specs.Registers.{bits_in}
use Rattle.registers.specs.Ranges.{selected_count}
use Rattle.registers.specs.declared.Page.{Page}
use Rattle.registers.specs.declared.Shared.{Shared}
use Rattle.registers.specs.declared.State.{State}
use Rattle.registers.specs.declared.Wait.TheVariants as v
use Rattle.commands.specs.declared.Command.{Command}
use Rattle.registers.specs.Bits.{with_bit}
use Rattle.registers.specs.Registers.{kept_flags}
use Rattle.commands.specs.Legality.{spi_needs_configuration}
use Rattle.decisions.specs.Common.{common_clause}
use Rattle.decisions.specs.I2c.{i2c_clause}
use Rattle.decisions.specs.Spi.{spi_clause}
use Rattle.decisions.specs.OneWire.{one_wire_clause}
use Rattle.decisions.specs.Events.{command_decision}
use Rattle.registers.specs.declared.Bit.TheVariants.{Three, Four}
use Rattle.commands.specs.declared.Command.TheVariants as k
use Rattle.commands.specs.declared.CommonCommand.{CommonCommand}
use Rattle.commands.specs.declared.CommonCommand.TheVariants as m
use Rattle.commands.specs.declared.I2cCommand.{I2cCommand}
use Rattle.commands.specs.declared.I2cCommand.TheVariants as i
use Rattle.commands.specs.declared.SpiCommand.{SpiCommand}
use Rattle.commands.specs.declared.SpiCommand.TheVariants as p
use Rattle.commands.specs.declared.OneWireCommand.{OneWireCommand}
use Rattle.commands.specs.declared.OneWireCommand.TheVariants as w
use Rattle.bridge.specs.Views.{interface_of, context_of}
use Rattle.bridge.proofs.Flags.{same_interface, one_selected}
use Rattle.bridge.proofs.Openings.{row, common_opening, i2c_opening, spi_opening, one_wire_opening, byte_opening, is_between}
use Rattle.grammar.proofs.Scans.{going_on}
use Rattle.bridge.proofs.Decisions.{Opens, Goes, legal_row, rejected_row, selected_matches, configured_matches}

module _ (page : Page) (shared : Shared) (held : List ℕ) (b : ℕ) where
  abbrev s : State
  s = record { page = page; shared = shared; wait = v.Nothing; held = held; drop = false }

  -- THE COMMON COMMANDS

  -- the view with other flags, of which only the three low bits count
  flags_view : (f g : ℕ) → f % 8 ≡ g % 8 → between (record { interface = interface_of f; configured = page.configured; bits = bits_in page }) ≡ between (record { interface = interface_of g; configured = page.configured; bits = bits_in page })
  flags_view f g h = ap (λ (i : Option Interface). between (record { interface = i; configured = page.configured; bits = bits_in page })) (same_interface f g h)

  common_row : (c : CommonCommand) (o : Operands) (e : ContextChange) → Goes s b o e (common_clause s c) → Opens s b (row b Common o e) (command_decision s (Some (k.Common c)))
  common_row c = legal_row s b (k.Common c) Common refl

  common_agrees : (c : CommonCommand) → Opens s b (common_opening b c) (command_decision s (Some (k.Common c)))
  common_agrees m.ResetDevice = common_row m.ResetDevice None Clear (refl, ap (λ (i : Option Interface). between (record { interface = i; configured = false; bits = 1 })) (same_interface (kept_flags page.flags) 0 (omega arith)))
  common_agrees m.SelectI2c = common_row m.SelectI2c None (Select (Some I2C)) (refl, flags_view (kept_flags page.flags + 1) 1 (omega arith))
  common_agrees m.SelectSpi = common_row m.SelectSpi None (Select (Some SPI)) (refl, flags_view (kept_flags page.flags + 2) 2 (omega arith))
  common_agrees m.SelectOneWire = common_row m.SelectOneWire None (Select (Some OneWire)) (refl, flags_view (kept_flags page.flags + 4) 4 (omega arith))
  common_agrees m.ReadError = common_row m.ReadError None Keep (refl, refl)
  common_agrees m.SaveToEprom = common_row m.SaveToEprom None Keep (refl, refl)
  common_agrees m.ReadFromEprom = common_row m.ReadFromEprom None Keep (refl, refl)
  common_agrees (m.SetReports on) = common_row (m.SetReports on) None Keep (refl, flags_view (with_bit Three on page.flags) page.flags (omega arith))
  common_agrees (m.SetAutoload on) = common_row (m.SetAutoload on) None Keep (refl, flags_view (with_bit Four on page.flags) page.flags (omega arith))
  common_agrees (m.SetupPort a) = common_row (m.SetupPort a) One Keep (refl, refl)
  common_agrees (m.ReadPort a) = common_row (m.ReadPort a) None Keep (refl, refl)
  common_agrees (m.ReadPins a) = common_row (m.ReadPins a) None Keep (refl, refl)
  common_agrees m.ReadFlags = common_row m.ReadFlags None Keep (refl, refl)
  common_agrees m.ReadVersion = common_row m.ReadVersion None Keep (refl, refl)
  common_agrees m.SetIog = common_row m.SetIog None Keep (refl, refl)
  common_agrees m.DoExtended = (refl, refl)
  common_agrees m.ReadSerial = common_row m.ReadSerial None Keep (refl, refl)

  -- AN INTERFACE'S COMMANDS, with the interface selected or not
  module _ (one : selected_count page.flags ≤ 1) where
    i2c_row : (c : I2cCommand) (o : Operands) (e : ContextChange) → Goes s b o e (i2c_clause c) → Opens s b (row b (Selected I2C) o e) (command_decision s (Some (k.I2c c)))
    i2c_row c = legal_row s b (k.I2c c) (Selected I2C) (selected_matches (one_selected page.flags one).i2c)

    i2c_agrees : (c : I2cCommand) → Opens s b (i2c_opening b c) (command_decision s (Some (k.I2c c)))
    i2c_agrees i.SendStart = i2c_row i.SendStart None Keep (refl, refl)
    i2c_agrees i.SendStop = i2c_row i.SendStop None Keep (refl, refl)
    i2c_agrees i.SendByte = i2c_row i.SendByte One Keep (refl, refl)
    i2c_agrees (i.ReadByte a) = i2c_row (i.ReadByte a) None Keep (refl, refl)
    i2c_agrees (i.DriveCs a) = i2c_row (i.DriveCs a) None Keep (refl, refl)
    i2c_agrees i.ReadCs = i2c_row i.ReadCs None Keep (refl, refl)

    -- a command that needs no configuration, and one that does
    spi_row : (c : SpiCommand) → spi_needs_configuration c ≡ false → (o : Operands) (e : ContextChange) → Goes s b o e (spi_clause page.config page.size c) → Opens s b (row b (Selected SPI) o e) (command_decision s (Some (k.Spi c)))
    spi_row c n = legal_row s b (k.Spi c) (Selected SPI) (rw n (selected_matches (one_selected page.flags one).spi))

    configured_row : (c : SpiCommand) → spi_needs_configuration c ≡ true → (o : Operands) (e : ContextChange) → Goes s b o e (spi_clause page.config page.size c) → Opens s b (row b Configured o e) (command_decision s (Some (k.Spi c)))
    configured_row c n = legal_row s b (k.Spi c) Configured (rw n (configured_matches page.configured (one_selected page.flags one).spi))

    packet_view : record { context = context_of s; place = Inside Keep (packet_bytes (bits_in page) - 1) } ≡ going Keep (packet_bytes (bits_in page)) b (context_of s)
    packet_view = going_on Keep (packet_bytes (bits_in page)) b (context_of s) (λ z. omega arith)

    spi_agrees : (c : SpiCommand) → Opens s b (spi_opening b c) (command_decision s (Some (k.Spi c)))
    spi_agrees p.LoadConfig = spi_row p.LoadConfig refl One Configure (refl, refl)
    spi_agrees p.ReadConfig = configured_row p.ReadConfig refl None Keep (refl, refl)
    spi_agrees p.LoadSize = spi_row p.LoadSize refl One Resize (refl, refl)
    spi_agrees p.ReadSize = spi_row p.ReadSize refl None Keep (refl, refl)
    spi_agrees (p.LoadPacket exchange) = configured_row (p.LoadPacket exchange) refl Packet Keep (refl, packet_view)
    spi_agrees p.ReadPacket = spi_row p.ReadPacket refl None Keep (refl, refl)
    spi_agrees p.StartExchange = configured_row p.StartExchange refl None Keep (refl, refl)
    spi_agrees (p.DriveSs a) = spi_row (p.DriveSs a) refl None Keep (refl, refl)
    spi_agrees p.ReadSs = spi_row p.ReadSs refl None Keep (refl, refl)
    spi_agrees p.ReadLow = spi_row p.ReadLow refl None Keep (refl, refl)
    spi_agrees p.ExchangeAndRead = configured_row p.ExchangeAndRead refl None Keep (refl, refl)

    one_wire_row : (c : OneWireCommand) (o : Operands) (e : ContextChange) → Goes s b o e (one_wire_clause c) → Opens s b (row b (Selected OneWire) o e) (command_decision s (Some (k.OneWire c)))
    one_wire_row c = legal_row s b (k.OneWire c) (Selected OneWire) (selected_matches (one_selected page.flags one).one_wire)

    one_wire_agrees : (c : OneWireCommand) → Opens s b (one_wire_opening b c) (command_decision s (Some (k.OneWire c)))
    one_wire_agrees w.SendReset = one_wire_row w.SendReset None Keep (refl, refl)
    one_wire_agrees w.SendByte = one_wire_row w.SendByte One Keep (refl, refl)
    one_wire_agrees w.SendBit = one_wire_row w.SendBit One Keep (refl, refl)
    one_wire_agrees w.SendStrong = one_wire_row w.SendStrong One Keep (refl, refl)
    one_wire_agrees w.ReadByte = one_wire_row w.ReadByte None Keep (refl, refl)
    one_wire_agrees w.ReadBit = one_wire_row w.ReadBit None Keep (refl, refl)
    one_wire_agrees w.LoadTimings = one_wire_row w.LoadTimings Nine Keep (refl, refl)
    one_wire_agrees w.ReadTimings = one_wire_row w.ReadTimings None Keep (refl, refl)
    one_wire_agrees w.ReleaseDq = one_wire_row w.ReleaseDq None Keep (refl, refl)
    one_wire_agrees (w.PulsePb7 a c) = one_wire_row (w.PulsePb7 a c) None Keep (refl, refl)

    -- ANY COMMAND that is not after 1D, and what is none
    pub command_agrees : (c : Option Command) → is_between c ≡ true → Opens s b (byte_opening b c) (command_decision s c)
    command_agrees option.None h = rejected_row s b option.None 0x80 refl
    command_agrees (Some (k.Common c)) h = common_agrees c
    command_agrees (Some (k.Extended c)) h = absurd (false≢true h)
    command_agrees (Some (k.I2c c)) h = i2c_agrees c
    command_agrees (Some (k.Spi c)) h = spi_agrees c
    command_agrees (Some (k.OneWire c)) h = one_wire_agrees c
