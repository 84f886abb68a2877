-- The most actions that a waveform is. Assumes nothing.
use Prim.Native.Nat.{ℕ, ◌+◌, ◌*◌, ◌<◌, ◌≤◌}
use mathlib.Core.List.{List}
use native.Mathlib.Omega.{arith}
use lib.ListN.{length}
use Rattle.packet.specs.Register.{byte_bits}
use Rattle.packet.specs.Packet.{width}
use Rattle.registers.specs.declared.Page.{Page}
use Rattle.lines.specs.Lines.{for_each}
use Rattle.one_wire_bus.specs.OneWire.{write_slots}
use Rattle.signals.specs.Waveforms.{Waveform, Still, Reinit, ReinitHigh, Line, Port, PortPulse, Pb7Pulse, SampleLine, SamplePort, Start, Stop, WriteI2c, ReadI2c, Exchange, ResetOneWire, WriteOneWire, WriteOneWireBit, WriteOneWireStrong, ReadOneWire, ReadOneWireBit, wave_of}
use Rattle.spi_bus.proofs.Exchanges.{exchange_most}

pub wave_few : (p : Page) (w : Waveform) (ss : List ℕ) (s : ℕ) → p.size < width → length (wave_of p w ss s).actions ≤ 1 + 4 * width
unfolding wave_of for_each byte_bits write_slots
wave_few p Still ss s h = omega arith
wave_few p Reinit ss s h = omega arith
wave_few p (ReinitHigh a) ss s h = omega arith
wave_few p (Line a b) ss s h = omega arith
wave_few p (Port a b c) ss s h = omega arith
wave_few p (PortPulse a b c d e) ss s h = omega arith
wave_few p (Pb7Pulse a b) ss s h = omega arith
wave_few p (SampleLine a) ss s h = omega arith
wave_few p (SamplePort a) ss s h = omega arith
wave_few p Start ss s h = omega arith
wave_few p Stop ss s h = omega arith
wave_few p (WriteI2c a) ss s h = omega arith
wave_few p (ReadI2c a) ss s h = omega arith
wave_few p Exchange ss s h = omega (arith, exchange_most p)
wave_few p ResetOneWire ss s h = omega arith
wave_few p (WriteOneWire a) ss s h = omega arith
wave_few p (WriteOneWireBit a) ss s h = omega arith
wave_few p (WriteOneWireStrong a) ss s h = omega arith
wave_few p ReadOneWire ss s h = omega arith
wave_few p ReadOneWireBit ss s h = omega arith
