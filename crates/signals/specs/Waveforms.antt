-- Every waveform by name, as its bus defines it. The names are declared in src/lib.rt.
use Rattle.std.specs.Prelude.{ℕ, List}
use Rattle.registers.specs.declared.Page.{Page}
use Rattle.wire.specs.Action.{Action, release, drive_high, sample_line, sample_port}
use Rattle.lines.specs.Waves.{LineWave, still, single, sampling, reinit, reinit_high, port_pulse, pb7_pulse}
use Rattle.i2c_bus.specs.I2c.{i2c_start, i2c_stop, i2c_write, i2c_read}
use Rattle.spi_bus.specs.Spi.{spi_exchange, packet_after}
use Rattle.one_wire_bus.specs.OneWire.{one_wire_reset, one_wire_write, one_wire_read, one_wire_read_bit}
pub use Rattle.signals.specs.declared.Waveform.{Waveform}
pub use Rattle.signals.specs.declared.Waveform.TheVariants.{Still, Reinit, ReinitHigh, Line, Port, PortPulse, Pb7Pulse, SampleLine, SamplePort, Start, Stop, WriteI2c, ReadI2c, Exchange, ResetOneWire, WriteOneWire, WriteOneWireBit, WriteOneWireStrong, ReadOneWire, ReadOneWireBit}

-- the actions, the samples used, the byte that they give (a single sample as it stands), and the packet register after them
pub record Wave : Type 0 where
  pub actions : List Action
  pub used : ℕ
  pub byte : ℕ
  pub packet : List ℕ

-- what happens on the lines, with the packet register after it
abbrev pub leaving : List ℕ → LineWave → Wave
leaving r w = record { actions = w.actions; used = w.used; byte = w.byte; packet = r }

-- .. as it was before
abbrev pub keeping : Page → LineWave → Wave
keeping p w = leaving p.packet w

-- the waveform on a page, with the samples from place s on
unfoldable pub wave_of : Page → Waveform → List ℕ → ℕ → Wave
wave_of p Still ss s = keeping p still
wave_of p Reinit ss s = keeping p reinit
wave_of p (ReinitHigh line) ss s = keeping p (reinit_high line)
wave_of p (Line verb line) ss s = keeping p (single verb line 0)
wave_of p (Port verb line x) ss s = keeping p (single verb line x)
wave_of p (PortPulse line x verb n y) ss s = keeping p (port_pulse line x verb n y)
wave_of p (Pb7Pulse verb n) ss s = keeping p (pb7_pulse verb n)
wave_of p (SampleLine line) ss s = keeping p (sampling sample_line line ss s)
wave_of p (SamplePort line) ss s = keeping p (sampling sample_port line ss s)
wave_of p Start ss s = keeping p i2c_start
wave_of p Stop ss s = keeping p i2c_stop
wave_of p (WriteI2c x) ss s = keeping p (i2c_write x ss s)
wave_of p (ReadI2c answer) ss s = keeping p (i2c_read answer ss s)
wave_of p Exchange ss s = leaving (packet_after p ss s) (spi_exchange p)
wave_of p ResetOneWire ss s = keeping p (one_wire_reset p.timings ss s)
wave_of p (WriteOneWire x) ss s = keeping p (one_wire_write p.timings 8 release x)
wave_of p (WriteOneWireBit x) ss s = keeping p (one_wire_write p.timings 1 release x)
wave_of p (WriteOneWireStrong x) ss s = keeping p (one_wire_write p.timings 8 drive_high x)
wave_of p ReadOneWire ss s = keeping p (one_wire_read p.timings ss s)
wave_of p ReadOneWireBit ss s = keeping p (one_wire_read_bit p.timings ss s)
