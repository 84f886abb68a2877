-- The common commands (01, "Registers and common commands"), a clause a command.
use Rattle.std.specs.Prelude.{ℕ, ◌+◌, Bool, true}
use Rattle.wire.specs.Action.{wait_cycles, cs, ss, port_d}
use Rattle.registers.specs.Registers.{kept_flags, register_of}
use Rattle.registers.specs.declared.State.{State}
use Rattle.registers.specs.declared.Operand.TheVariants as o
use Rattle.registers.specs.declared.Wait.TheVariants as v
use Rattle.signals.specs.declared.Waveform.{Waveform}
use Rattle.signals.specs.declared.Waveform.TheVariants as w
use Rattle.registers.specs.Bits.{with_bit}
use Rattle.registers.specs.declared.Bit.{Bit}
use Rattle.registers.specs.declared.Bit.TheVariants.{Three, Four}
use Rattle.decisions.specs.Decisions.{Decision, Returns, Sends, SendsSample, SendsEprom, SendsSerial, decision, sends, awaits}
use Rattle.decisions.specs.declared.Change.TheVariants as c
use Rattle.commands.specs.declared.CommonCommand.{CommonCommand}
use Rattle.commands.specs.declared.CommonCommand.TheVariants as k

-- "01, 02, 03 clear the same common flags, set their own; reinit, then CS (01) or SS (02) high; 00": to the flags kept, which are those
-- that 00 does not clear, one is added
abbrev pub selects : ℕ → ℕ → Waveform → Decision
selects kept flag wave = decision (c.Select (kept + flag)) wave (Returns 0x00)

-- "07/08 set/clear reports, 09/0A autoload; each returns 00"
abbrev pub flagged : ℕ → Bit → Bool → Decision
flagged flags b on = decision (c.Flags (with_bit b on flags)) w.Still (Returns 0x00)

abbrev pub common_clause : State → CommonCommand → Decision
common_clause s k.ResetDevice = decision c.Reset w.Reinit (Returns 0x00)
common_clause s k.SelectI2c = selects (kept_flags s.page.flags) 1 (w.ReinitHigh cs)
common_clause s k.SelectSpi = selects (kept_flags s.page.flags) 2 (w.ReinitHigh ss)
common_clause s k.SelectOneWire = selects (kept_flags s.page.flags) 4 w.Reinit
-- "04 sends ERROR, then zeroes it"
common_clause s k.ReadError = decision c.ClearError w.Still (Sends s.page.error)
common_clause s k.SaveToEprom = decision c.Save w.Still (Returns 0x00)
common_clause s k.ReadFromEprom = sends SendsEprom
-- 00 is returned for 08 too (H), and not sent, since reports are off after it
common_clause s (k.SetReports on) = flagged s.page.flags Three on
common_clause s (k.SetAutoload on) = flagged s.page.flags Four on
common_clause s (k.SetupPort x) = awaits (v.One (o.ToPort x))
common_clause s (k.ReadPort x) = sends (Sends (register_of s.page x))
common_clause s (k.ReadPins line) = decision c.Nothing (w.SamplePort line) SendsSample
common_clause s k.ReadFlags = sends (Sends s.page.flags)
-- one byte (H)
common_clause s k.ReadVersion = sends (Sends s.shared.version)
-- 1C: "PD4 latched 1, wait IOG cycles, PD3 latched 1"
common_clause s k.SetIog =
    let first = with_bit Four true s.page.portd in
    let last = with_bit Three true first in
    decision (c.Latch last) (w.PortPulse port_d first wait_cycles s.shared.cycles last) (Returns 0x00)
common_clause s k.DoExtended = awaits v.Extended
-- four bytes, low first (H)
common_clause s k.ReadSerial = sends SendsSerial
