-- The extended commands, after 1D (01, "Registers and common commands"). "Each edge is a latch action, and PORTC or PORTD keeps
-- the last level."
use Rattle.std.specs.Prelude.{not}
use Rattle.registers.specs.Registers.{register_of, verb_of, line_of}
use Rattle.registers.specs.declared.State.{State}
use Rattle.registers.specs.declared.Operand.TheVariants as o
use Rattle.registers.specs.declared.Wait.TheVariants as v
use Rattle.signals.specs.declared.Waveform.TheVariants as w
use Rattle.registers.specs.Bits.{with_bit}
use Rattle.decisions.specs.Decisions.{Decision, Returns, Sends, awaits, ends, stores}
use Rattle.commands.specs.declared.ExtendedCommand.{ExtendedCommand}
use Rattle.commands.specs.declared.ExtendedCommand.TheVariants as k

abbrev pub extended_clause : State → ExtendedCommand → Decision
-- "01: PC5 up, 1 µs, down. 02: the same on PD3. 03, 08, 09: PD4 down, 1 µs / 25 ms / 2 ms, up."
extended_clause s (k.Pulse r b level unit n) =
    let first = with_bit b level (register_of s.page r) in
    let last = with_bit b (not level) first in
    stores r last (w.PortPulse (line_of r) first unit n last) (Returns 0x00)
-- "0A/0B set/clear PORTD bit 5, 0C/0D DDRD bit 5, one action"
extended_clause s (k.SetBit r b on) =
    let x = with_bit b on (register_of s.page r) in
    stores r x (w.Port (verb_of r) (line_of r) x) (Returns 0x00)
-- "0E returns 00, then one operand becomes the IOG count"
extended_clause s k.LoadCycles = awaits (v.One o.ToCycles)
extended_clause s k.ReadCycles = ends w.Still (Sends s.shared.cycles)
