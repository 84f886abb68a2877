-- Case by case, the definition's own clause.
use mathlib.Core.Path.{◌≡◌, sym, ap, ◌∙◌}
use mathlib.Core.List.{List}
use Prim.Native.Nat.{ℕ}
use Rattle.registers.specs.declared.Page.{Page}
use Rattle.lines.specs.Waves.{measure_of}
use Rattle.lines.specs.declared.Measured.{Measured}
use Rattle.signals.specs.Waveforms.{Waveform, wave_of}
use Rattle.signals.specs.Sensed.{on_lines}
use Rattle.signals.proofs.measure.Goals as goal

-- what is measured of a waveform is what is measured of its name
told : (p : Page) {w : Waveform} (v : Waveform) (ss : List ℕ) (from : ℕ) {r : Measured} → w ≡ v → r ≡ measure_of (on_lines (wave_of p v ss from)) → r ≡ measure_of (on_lines (wave_of p w ss from))
told p v ss from e h = h ∙ sym (ap (λ (x : Waveform). measure_of (on_lines (wave_of p x ss from))) e)

pub returns-in-Still : goal.returns-in-Still
unfolding wave_of
returns-in-Still c =
    told c.args.page _ c.args.samples.now 0 c.in-Still.is c.quiet.ensures

pub returns-in-Reinit : goal.returns-in-Reinit
unfolding wave_of
returns-in-Reinit c =
    told c.args.page _ c.args.samples.now 0 c.in-Reinit.is c.measure_reinit.ensures

pub returns-in-ReinitHigh : goal.returns-in-ReinitHigh
unfolding wave_of
returns-in-ReinitHigh c =
    told c.args.page _ c.args.samples.now 0 c.in-ReinitHigh.is c.measure_reinit_high.ensures

pub returns-in-Line : goal.returns-in-Line
unfolding wave_of
returns-in-Line c =
    told c.args.page _ c.args.samples.now 0 c.in-Line.is c.measure_single.ensures

pub returns-in-Port : goal.returns-in-Port
unfolding wave_of
returns-in-Port c =
    told c.args.page _ c.args.samples.now 0 c.in-Port.is c.measure_single-in-Port.ensures

pub returns-in-PortPulse : goal.returns-in-PortPulse
unfolding wave_of
returns-in-PortPulse c =
    told c.args.page _ c.args.samples.now 0 c.in-PortPulse.is c.measure_port_pulse.ensures

pub returns-in-Pb7Pulse : goal.returns-in-Pb7Pulse
unfolding wave_of
returns-in-Pb7Pulse c =
    told c.args.page _ c.args.samples.now 0 c.in-Pb7Pulse.is c.measure_pb7_pulse.ensures

pub returns-in-SampleLine : goal.returns-in-SampleLine
unfolding wave_of
returns-in-SampleLine c =
    told c.args.page _ c.args.samples.now 0 c.in-SampleLine.is c.measure_sample.ensures

pub returns-in-SamplePort : goal.returns-in-SamplePort
unfolding wave_of
returns-in-SamplePort c =
    told c.args.page _ c.args.samples.now 0 c.in-SamplePort.is c.measure_sample-in-SamplePort.ensures

pub returns-in-Start : goal.returns-in-Start
unfolding wave_of
returns-in-Start c =
    told c.args.page _ c.args.samples.now 0 c.in-Start.is c.measure_start.ensures

pub returns-in-Stop : goal.returns-in-Stop
unfolding wave_of
returns-in-Stop c =
    told c.args.page _ c.args.samples.now 0 c.in-Stop.is c.measure_stop.ensures

pub returns-in-WriteI2c : goal.returns-in-WriteI2c
unfolding wave_of
returns-in-WriteI2c c =
    told c.args.page _ c.args.samples.now 0 c.in-WriteI2c.is c.measure_write.ensures

pub returns-in-ReadI2c : goal.returns-in-ReadI2c
unfolding wave_of
returns-in-ReadI2c c =
    told c.args.page _ c.args.samples.now 0 c.in-ReadI2c.is c.measure_read.ensures

pub returns-in-Exchange : goal.returns-in-Exchange
unfolding wave_of
returns-in-Exchange c =
    told c.args.page _ c.args.samples.now 0 c.in-Exchange.is c.measure_exchange.ensures

pub returns-in-ResetOneWire : goal.returns-in-ResetOneWire
unfolding wave_of
returns-in-ResetOneWire c =
    told c.args.page _ c.args.samples.now 0 c.in-ResetOneWire.is c.measure_reset.ensures

pub returns-in-WriteOneWire : goal.returns-in-WriteOneWire
unfolding wave_of
returns-in-WriteOneWire c =
    told c.args.page _ c.args.samples.now 0 c.in-WriteOneWire.is c.measure_write-in-WriteOneWire.ensures

pub returns-in-WriteOneWireBit : goal.returns-in-WriteOneWireBit
unfolding wave_of
returns-in-WriteOneWireBit c =
    told c.args.page _ c.args.samples.now 0 c.in-WriteOneWireBit.is c.measure_write-in-WriteOneWireBit.ensures

pub returns-in-WriteOneWireStrong : goal.returns-in-WriteOneWireStrong
unfolding wave_of
returns-in-WriteOneWireStrong c =
    told c.args.page _ c.args.samples.now 0 c.in-WriteOneWireStrong.is c.measure_write-in-WriteOneWireStrong.ensures

pub returns-in-ReadOneWire : goal.returns-in-ReadOneWire
unfolding wave_of
returns-in-ReadOneWire c =
    told c.args.page _ c.args.samples.now 0 c.in-ReadOneWire.is c.measure_read-in-ReadOneWire.ensures

pub returns-in-ReadOneWireBit : goal.returns-in-ReadOneWireBit
unfolding wave_of
returns-in-ReadOneWireBit c =
    told c.args.page _ c.args.samples.now 0 c.in-ReadOneWireBit.is c.measure_read_bit.ensures
