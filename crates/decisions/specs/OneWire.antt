-- The commands of 1-Wire (01, "1-Wire").
use Rattle.wire.specs.Action.{release, dq}
use Rattle.registers.specs.Registers.{timing_bytes}
use Rattle.registers.specs.declared.Operand.TheVariants as o
use Rattle.registers.specs.declared.Wait.TheVariants as v
use Rattle.signals.specs.declared.Waveform.TheVariants as w
use Rattle.decisions.specs.Decisions.{Decision, Checked, SendsSample, SendsLevel, SendsTimings, decision, sends, performs, awaits}
use Rattle.decisions.specs.declared.Change.TheVariants as c
use Rattle.commands.specs.declared.OneWireCommand.{OneWireCommand}
use Rattle.commands.specs.declared.OneWireCommand.TheVariants as k

abbrev pub one_wire_clause : OneWireCommand → Decision
-- "low returns 00, else 60"
one_wire_clause k.SendReset = decision c.Nothing w.ResetOneWire (Checked 0x60)
one_wire_clause k.SendByte = awaits (v.One o.ToOneWire)
one_wire_clause k.SendBit = awaits (v.One o.ToOneWireBit)
one_wire_clause k.SendStrong = awaits (v.One o.ToOneWireStrong)
one_wire_clause k.ReadByte = decision c.Nothing w.ReadOneWire SendsSample
-- "64 one bit as 0F/8F"
one_wire_clause k.ReadBit = decision c.Nothing w.ReadOneWireBit SendsLevel
one_wire_clause k.LoadTimings = awaits (v.Timings timing_bytes)
one_wire_clause k.ReadTimings = sends SendsTimings
one_wire_clause k.ReleaseDq = performs (w.Line release dq)
one_wire_clause (k.PulsePb7 unit n) = performs (w.Pb7Pulse unit n)
