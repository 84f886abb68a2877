-- What each event decides and does (01, from "What goes in and comes out" to "1-Wire"): a byte by what is waited for, or a line fault.
-- The clauses of the commands are in Common, Extended, I2c, Spi and OneWire, those of other bytes in Operands, that of a rejected command
-- in Rejections, and what a change means is in Changes. Which command a byte is and whether it is legal is in commands/specs/.
use Rattle.std.specs.Prelude.{ℕ, Bool, true, false, cond, List, Option, Some, None, Result, Ok, Err, ⊤}
use Rattle.codes.specs.Codes.{unknown_command}
use Rattle.registers.specs.Registers.{bits_in, with_drop, is_idle, fault_code}
use Rattle.registers.specs.declared.State.{State}
use Rattle.registers.specs.declared.Wait.{Wait}
use Rattle.registers.specs.declared.Wait.TheVariants as v
use Rattle.registers.specs.declared.Event.{Event}
use Rattle.registers.specs.declared.Event.TheVariants as e
use Rattle.decisions.specs.Decisions.{Decision, returns, dropped}
use Rattle.commands.specs.Commands.{command_of, extended_command_of}
use Rattle.commands.specs.declared.Command.{Command}
use Rattle.commands.specs.Legality.{legality_of}
use Rattle.decisions.specs.Rejections.{rejected_clause}
use Rattle.decisions.specs.Common.{common_clause}
use Rattle.decisions.specs.Extended.{extended_clause}
use Rattle.decisions.specs.I2c.{i2c_clause}
use Rattle.decisions.specs.Spi.{spi_clause}
use Rattle.decisions.specs.OneWire.{one_wire_clause}
use Rattle.decisions.specs.Operands.{operand_clause, packet_clause, timings_clause}
use Rattle.decisions.specs.Effects.{Effect, carried_out}
use Rattle.commands.specs.declared.Command.TheVariants as k

-- A COMMAND where it is legal
abbrev pub clause_of : State → Command → Decision
clause_of s (k.Common c) = common_clause s c
clause_of s (k.Extended c) = extended_clause s c
clause_of s (k.I2c c) = i2c_clause c
clause_of s (k.Spi c) = spi_clause s.page.config s.page.size c
clause_of s (k.OneWire c) = one_wire_clause c

-- legal or not
abbrev pub command_decided : State → Command → Result ⊤ ℕ → Decision
command_decided s c (Ok legal) = clause_of s c
command_decided s c (Err code) = rejected_clause c code

-- a byte's command, if it has one; "any other byte: 80"
abbrev pub command_decision : State → Option Command → Decision
command_decision s None = returns unknown_command
command_decision s (Some c) = command_decided s c (legality_of s.page.flags s.page.configured (Some c))

-- A BYTE, by what is waited for; "1D returns 00; the next byte is extended", and "after 1D a bad byte leaves the wait (H)"
abbrev pub byte_decision : State → Wait → ℕ → Decision
byte_decision s v.Nothing x = command_decision s (command_of x)
byte_decision s (v.One a) x = operand_clause s.page a x
byte_decision s v.Extended x = command_decision s (extended_command_of x)
byte_decision s (v.Packet left exchange) x = packet_clause (bits_in s.page) left exchange x
byte_decision s (v.Timings left) x = timings_clause left x

-- AN EVENT; "A fault returns its code; the byte it came with is lost, any wait stays." A byte is dropped where a drop is pending.
abbrev pub decision_of : State → Event → Decision
decision_of s (e.Byte x) = cond s.drop dropped (byte_decision s s.wait x)
decision_of s (e.Fault f) = returns (fault_code f)

-- WHETHER A DROP IS PENDING AFTER IT (02, Ask 2): "Between commands .. a fault also makes the bridge drop the next good byte without a
-- code. .. Inside an item the rule of 01 stays"; a byte ends the drop
abbrev pub drop_after : Wait → Event → Bool
drop_after w (e.Byte x) = false
drop_after w (e.Fault f) = is_idle w

abbrev pub drop_marked : State → Event → State
drop_marked s ev = with_drop s (drop_after s.wait ev)

-- with the samples from place m on
unfoldable pub effect_of : State → Event → List ℕ → ℕ → Effect
effect_of s ev ss m = carried_out (drop_marked s ev) (decision_of s ev) ss m
