-- Every decision is proper or a rejection: its answer rejects nothing, and is short unless the state stays, and its waveform's verb samples
-- nothing; or it returns a code and does nothing else. Computed over the tables of commands. Assumes nothing.
use Prim.Native.Nat.{ℕ}
use mathlib.Core.Path.{◌≡◌, refl}
use mathlib.Core.Bool.{Bool, true, false, ◌&&◌, ◌||◌}
use lib.Dec.{eqb}
use Rattle.codes.specs.Codes.{unknown_command}
use Rattle.codes.proofs.Lookup.{either, found_all}
use Rattle.registers.specs.declared.State.{State}
use Rattle.registers.specs.declared.PortRegister.{PortRegister}
use Rattle.registers.specs.declared.PortRegister.TheVariants as r
use Rattle.registers.specs.declared.Operand.{Operand}
use Rattle.registers.specs.declared.Operand.TheVariants as o
use Rattle.registers.specs.declared.Wait.{Wait}
use Rattle.registers.specs.declared.Wait.TheVariants as v
use Rattle.registers.specs.declared.Fault.TheVariants as f
use Rattle.registers.specs.declared.Event.{Event}
use Rattle.registers.specs.declared.Event.TheVariants as e
use Rattle.signals.specs.Samples.{steady}
use Rattle.commands.specs.Commands.{extended_table, command_table, command_of, extended_command_of}
use Rattle.commands.specs.declared.Command.{Command}
use Rattle.decisions.specs.Decisions.{Change, Decision, ReturnsAndSends, returns, sends}
use Rattle.commands.specs.Legality.{legality_of}
use Rattle.std.specs.Prelude.{Option, Some, None, Result, Ok, Err, ⊤}
use Rattle.decisions.specs.Rejections.{reads_configuration}
use Rattle.decisions.specs.Operands.{operand_clause, loaded_clause}
use Rattle.decisions.specs.Events.{clause_of, command_decided, command_decision, byte_decision, decision_of}
use Rattle.decisions.specs.declared.Change.TheVariants as c
use Rattle.decisions.proofs.Answers.{accepting, short}

-- the state stays
abbrev pub stays : Change → Bool
stays c.Nothing = true
stays c.Reset = false
stays (c.Select g) = false
stays c.ClearError = false
stays c.Save = false
stays (c.Flags g) = false
stays (c.Latch x) = false
stays (c.Await a) = false
stays c.EndWait = false
stays (c.Store a x) = false
stays (c.Cycles x) = false
stays (c.Config x) = false
stays (c.Size x) = false
stays (c.Hold a at b) = false
stays (c.LoadPacket at b) = false
stays (c.LoadTimings at b) = false

abbrev pub proper : Decision → Bool
proper d = accepting d.answer && ((stays d.change || short d.answer) && steady d.wave)

pub data Sorted (d : Decision) : Type 0 where
  is_proper : proper d ≡ true → Sorted d
  coded : (code : ℕ) → d ≡ returns code → Sorted d
  coded_and_sent : (code : ℕ) → d ≡ sends (ReturnsAndSends code) → Sorted d

module _ (s : State) where
  clause_properly : Option Command → Bool
  clause_properly None = true
  clause_properly (Some x) = proper (clause_of s x)

  clause_proper : (b : ℕ) → clause_properly (command_of b) ≡ true
  unfolding clause_properly
  clause_proper b = found_all clause_properly None b command_table refl refl

  extended_proper : (b : ℕ) → clause_properly (extended_command_of b) ≡ true
  unfolding clause_properly
  extended_proper b = found_all clause_properly None b extended_table refl refl

  decided_sorted : (x : Option Command) → clause_properly x ≡ true → Sorted (command_decision s x)
  unfolding clause_properly
  decided_sorted None p = coded unknown_command refl
  decided_sorted (Some x) p = go (legality_of s.page.flags s.page.configured (Some x))
    where
      go : (l : Result ⊤ ℕ) → Sorted (command_decided s x l)
      go (Ok u) = is_proper p
      go (Err w) = either Sorted (eqb w 0x40 && reads_configuration x) _ _ (coded_and_sent w refl) (coded w refl)

  port_sorted : (a : PortRegister) (b : ℕ) → Sorted (operand_clause s.page (o.ToPort a) b)
  port_sorted r.Ddrb b = is_proper refl
  port_sorted r.Portb b = is_proper refl
  port_sorted r.Ddrc b = is_proper refl
  port_sorted r.Portc b = is_proper refl
  port_sorted r.Ddrd b = is_proper refl
  port_sorted r.Portd b = is_proper refl

  operand_sorted : (a : Operand) (b : ℕ) → Sorted (operand_clause s.page a b)
  operand_sorted (o.ToPort a) b = port_sorted a b
  operand_sorted o.ToCycles b = is_proper refl
  operand_sorted o.ToI2c b = is_proper refl
  operand_sorted o.ToConfig b = is_proper refl
  operand_sorted o.ToSize b = is_proper refl
  operand_sorted o.ToOneWire b = is_proper refl
  operand_sorted o.ToOneWireBit b = is_proper refl
  operand_sorted o.ToOneWireStrong b = is_proper refl

  loaded_sorted : (at b : ℕ) (exchange : Bool) → Sorted (loaded_clause at b exchange)
  loaded_sorted at b true = is_proper refl
  loaded_sorted at b false = is_proper refl

  pub byte_sorted : (a : Wait) (b : ℕ) → Sorted (byte_decision s a b)
  byte_sorted v.Nothing b = decided_sorted (command_of b) (clause_proper b)
  byte_sorted (v.One a) b = operand_sorted a b
  byte_sorted v.Extended b = decided_sorted (extended_command_of b) (extended_proper b)
  byte_sorted (v.Packet left exchange) b = either Sorted (eqb left 1) _ _ (loaded_sorted _ b exchange) (is_proper refl)
  byte_sorted (v.Timings left) b = either Sorted (eqb left 1) _ _ (is_proper refl) (is_proper refl)

  pub decision_sorted : (a : Event) → Sorted (decision_of s a)
  decision_sorted (e.Byte b) = either Sorted s.drop _ _ (is_proper refl) (byte_sorted s.wait b)
  decision_sorted (e.Fault f.Frame) = is_proper refl
  decision_sorted (e.Fault f.Overrun) = is_proper refl
  decision_sorted (e.Fault f.Parity) = is_proper refl
