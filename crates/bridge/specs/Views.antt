-- The grammar's context of a state (01, "Grammar"): "The context is the interface, configured or not, and N, at first the start
-- state's".
use Rattle.std.specs.Prelude.{ℕ, cond, Option, Some, None}
use Rattle.grammar.specs.declared.Interface.{Interface}
use Rattle.grammar.specs.declared.Interface.TheVariants.{I2C, SPI, OneWire}
use Rattle.grammar.specs.declared.Context.{Context}
use Rattle.registers.specs.Registers.{i2c_selected, spi_selected, one_wire_selected, bits_in}
use Rattle.registers.specs.declared.State.{State}

-- COMMON_FLAGS: "bit 0 I2C, 1 SPI, 2 1-Wire"; a state that breaks no range has at most one of them set
abbrev pub interface_of : ℕ → Option Interface
interface_of flags = cond (i2c_selected flags) (Some I2C) (cond (spi_selected flags) (Some SPI) (cond (one_wire_selected flags) (Some OneWire) None))

abbrev pub context_of : State → Context
context_of s = record { interface = interface_of s.page.flags; configured = s.page.configured; bits = bits_in s.page }
