-- Case by case, the definition's own clause.
use mathlib.Core.Path.{◌≡◌, ap}
use mathlib.Core.List.{List}
use Prim.Native.Nat.{ℕ}
use native.Mathlib.Omega.{arith}
use Rattle.wire.specs.Action.{bytes_of}
use Rattle.wire.proofs.Buffers.{written_none}
use Rattle.registers.specs.declared.Page.{Page}
use Rattle.signals.specs.Waveforms.{Waveform, wave_of}
use Rattle.lines.proofs.Rows.{same_written, same_room}
use Rattle.signals.proofs.write.Goals as goal

-- the actions of a waveform are those of its name
acts : (p : Page) {w v : Waveform} (ss : List ℕ) (from : ℕ) → w ≡ v → bytes_of (wave_of p w ss from).actions ≡ bytes_of (wave_of p v ss from).actions
acts p ss from e = ap (λ (x : Waveform). bytes_of (wave_of p x ss from).actions) e

pub put_reinit-requires : goal.put_reinit-requires
unfolding wave_of
put_reinit-requires c =
    same_room (acts c.args.page c.args.samples.now c.args.from c.in-Reinit.is) c.requires.1

pub put_reinit_high-requires : goal.put_reinit_high-requires
unfolding wave_of
put_reinit_high-requires c =
    same_room (acts c.args.page c.args.samples.now c.args.from c.in-ReinitHigh.is) c.requires.1

pub put_single-requires : goal.put_single-requires
unfolding wave_of
put_single-requires c =
    same_room (acts c.args.page c.args.samples.now c.args.from c.in-Line.is) c.requires.1

pub put_single-requires-in-Port : goal.put_single-requires-in-Port
unfolding wave_of
put_single-requires-in-Port c =
    same_room (acts c.args.page c.args.samples.now c.args.from c.in-Port.is) c.requires.1

pub put_port_pulse-requires : goal.put_port_pulse-requires
unfolding wave_of
put_port_pulse-requires c =
    same_room (acts c.args.page c.args.samples.now c.args.from c.in-PortPulse.is) c.requires.1

pub put_pb7_pulse-requires : goal.put_pb7_pulse-requires
unfolding wave_of
put_pb7_pulse-requires c =
    same_room (acts c.args.page c.args.samples.now c.args.from c.in-Pb7Pulse.is) c.requires.1

pub put_single-requires-in-SampleLine : goal.put_single-requires-in-SampleLine
unfolding wave_of
put_single-requires-in-SampleLine c =
    same_room (acts c.args.page c.args.samples.now c.args.from c.in-SampleLine.is) c.requires.1

pub put_single-requires-in-SamplePort : goal.put_single-requires-in-SamplePort
unfolding wave_of
put_single-requires-in-SamplePort c =
    same_room (acts c.args.page c.args.samples.now c.args.from c.in-SamplePort.is) c.requires.1

pub put_start-requires : goal.put_start-requires
unfolding wave_of
put_start-requires c =
    same_room (acts c.args.page c.args.samples.now c.args.from c.in-Start.is) c.requires.1

pub put_stop-requires : goal.put_stop-requires
unfolding wave_of
put_stop-requires c =
    same_room (acts c.args.page c.args.samples.now c.args.from c.in-Stop.is) c.requires.1

pub put_write-requires : goal.put_write-requires
unfolding wave_of
put_write-requires c =
    same_room (acts c.args.page c.args.samples.now c.args.from c.in-WriteI2c.is) c.requires.1

pub put_read-requires : goal.put_read-requires
unfolding wave_of
put_read-requires c =
    same_room (acts c.args.page c.args.samples.now c.args.from c.in-ReadI2c.is) c.requires.1

pub put_exchange-requires : goal.put_exchange-requires
unfolding wave_of
put_exchange-requires c =
    (c.requires.0, same_room (acts c.args.page c.args.samples.now c.args.from c.in-Exchange.is) c.requires.1)

pub put_reset-requires : goal.put_reset-requires
unfolding wave_of
put_reset-requires c =
    same_room (acts c.args.page c.args.samples.now c.args.from c.in-ResetOneWire.is) c.requires.1

pub put_write-requires-in-WriteOneWire : goal.put_write-requires-in-WriteOneWire
unfolding wave_of
put_write-requires-in-WriteOneWire c =
    ((omega arith, omega arith), same_room (acts c.args.page c.args.samples.now c.args.from c.in-WriteOneWire.is) c.requires.1)

pub put_write-requires-in-WriteOneWireBit : goal.put_write-requires-in-WriteOneWireBit
unfolding wave_of
put_write-requires-in-WriteOneWireBit c =
    ((omega arith, omega arith), same_room (acts c.args.page c.args.samples.now c.args.from c.in-WriteOneWireBit.is) c.requires.1)

pub put_write-requires-in-WriteOneWireStrong : goal.put_write-requires-in-WriteOneWireStrong
unfolding wave_of
put_write-requires-in-WriteOneWireStrong c =
    ((omega arith, omega arith), same_room (acts c.args.page c.args.samples.now c.args.from c.in-WriteOneWireStrong.is) c.requires.1)

pub put_read-requires-in-ReadOneWire : goal.put_read-requires-in-ReadOneWire
unfolding wave_of
put_read-requires-in-ReadOneWire c =
    same_room (acts c.args.page c.args.samples.now c.args.from c.in-ReadOneWire.is) c.requires.1

pub put_read_bit-requires : goal.put_read_bit-requires
unfolding wave_of
put_read_bit-requires c =
    same_room (acts c.args.page c.args.samples.now c.args.from c.in-ReadOneWireBit.is) c.requires.1

pub returns-in-Still : goal.returns-in-Still
unfolding wave_of
returns-in-Still c =
    same_written (acts c.args.page c.args.samples.now c.args.from c.in-Still.is) (written_none _ _)

pub returns-in-Reinit : goal.returns-in-Reinit
unfolding wave_of
returns-in-Reinit c =
    same_written (acts c.args.page c.args.samples.now c.args.from c.in-Reinit.is) c.put_reinit.ensures

pub returns-in-ReinitHigh : goal.returns-in-ReinitHigh
unfolding wave_of
returns-in-ReinitHigh c =
    same_written (acts c.args.page c.args.samples.now c.args.from c.in-ReinitHigh.is) c.put_reinit_high.ensures

pub returns-in-Line : goal.returns-in-Line
unfolding wave_of
returns-in-Line c =
    same_written (acts c.args.page c.args.samples.now c.args.from c.in-Line.is) c.put_single.ensures

pub returns-in-Port : goal.returns-in-Port
unfolding wave_of
returns-in-Port c =
    same_written (acts c.args.page c.args.samples.now c.args.from c.in-Port.is) c.put_single-in-Port.ensures

pub returns-in-PortPulse : goal.returns-in-PortPulse
unfolding wave_of
returns-in-PortPulse c =
    same_written (acts c.args.page c.args.samples.now c.args.from c.in-PortPulse.is) c.put_port_pulse.ensures

pub returns-in-Pb7Pulse : goal.returns-in-Pb7Pulse
unfolding wave_of
returns-in-Pb7Pulse c =
    same_written (acts c.args.page c.args.samples.now c.args.from c.in-Pb7Pulse.is) c.put_pb7_pulse.ensures

pub returns-in-SampleLine : goal.returns-in-SampleLine
unfolding wave_of
returns-in-SampleLine c =
    same_written (acts c.args.page c.args.samples.now c.args.from c.in-SampleLine.is) c.put_single-in-SampleLine.ensures

pub returns-in-SamplePort : goal.returns-in-SamplePort
unfolding wave_of
returns-in-SamplePort c =
    same_written (acts c.args.page c.args.samples.now c.args.from c.in-SamplePort.is) c.put_single-in-SamplePort.ensures

pub returns-in-Start : goal.returns-in-Start
unfolding wave_of
returns-in-Start c =
    same_written (acts c.args.page c.args.samples.now c.args.from c.in-Start.is) c.put_start.ensures

pub returns-in-Stop : goal.returns-in-Stop
unfolding wave_of
returns-in-Stop c =
    same_written (acts c.args.page c.args.samples.now c.args.from c.in-Stop.is) c.put_stop.ensures

pub returns-in-WriteI2c : goal.returns-in-WriteI2c
unfolding wave_of
returns-in-WriteI2c c =
    same_written (acts c.args.page c.args.samples.now c.args.from c.in-WriteI2c.is) c.put_write.ensures

pub returns-in-ReadI2c : goal.returns-in-ReadI2c
unfolding wave_of
returns-in-ReadI2c c =
    same_written (acts c.args.page c.args.samples.now c.args.from c.in-ReadI2c.is) c.put_read.ensures

pub returns-in-Exchange : goal.returns-in-Exchange
unfolding wave_of
returns-in-Exchange c =
    same_written (acts c.args.page c.args.samples.now c.args.from c.in-Exchange.is) c.put_exchange.ensures

pub returns-in-ResetOneWire : goal.returns-in-ResetOneWire
unfolding wave_of
returns-in-ResetOneWire c =
    same_written (acts c.args.page c.args.samples.now c.args.from c.in-ResetOneWire.is) c.put_reset.ensures

pub returns-in-WriteOneWire : goal.returns-in-WriteOneWire
unfolding wave_of
returns-in-WriteOneWire c =
    same_written (acts c.args.page c.args.samples.now c.args.from c.in-WriteOneWire.is) c.put_write-in-WriteOneWire.ensures

pub returns-in-WriteOneWireBit : goal.returns-in-WriteOneWireBit
unfolding wave_of
returns-in-WriteOneWireBit c =
    same_written (acts c.args.page c.args.samples.now c.args.from c.in-WriteOneWireBit.is) c.put_write-in-WriteOneWireBit.ensures

pub returns-in-WriteOneWireStrong : goal.returns-in-WriteOneWireStrong
unfolding wave_of
returns-in-WriteOneWireStrong c =
    same_written (acts c.args.page c.args.samples.now c.args.from c.in-WriteOneWireStrong.is) c.put_write-in-WriteOneWireStrong.ensures

pub returns-in-ReadOneWire : goal.returns-in-ReadOneWire
unfolding wave_of
returns-in-ReadOneWire c =
    same_written (acts c.args.page c.args.samples.now c.args.from c.in-ReadOneWire.is) c.put_read-in-ReadOneWire.ensures

pub returns-in-ReadOneWireBit : goal.returns-in-ReadOneWireBit
unfolding wave_of
returns-in-ReadOneWireBit c =
    same_written (acts c.args.page c.args.samples.now c.args.from c.in-ReadOneWireBit.is) c.put_read_bit.ensures
