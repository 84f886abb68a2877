-- A byte after 1D, an operand, and a packet or timing byte: the decision for it agrees with the scanner. Assumes nothing.
use Prim.Native.Nat.{ℕ, ◌-◌, ◌≤◌}
use mathlib.Core.Path.{◌≡◌, refl, ◌∙◌, ap}
use mathlib.Core.Bool.{Bool, true, false, cond, false≢true}
use native.Mathlib.Omega.{arith}
use borrow.Author.Tests.{eqb-true, eqb-false}
use lib.Dec.{eqb}
use Rattle.grammar.specs.Scanner.{going, between}
use Rattle.grammar.specs.declared.ContextChange.TheVariants.{Keep}
use Rattle.grammar.specs.declared.Place.TheVariants.{Inside}
use Rattle.std.specs.Prelude.{Option, Some, None, Ok}
use Rattle.registers.specs.Registers.{bits_in}
use Rattle.registers.specs.declared.State.{State}
use Rattle.registers.specs.declared.PortRegister.{PortRegister}
use Rattle.registers.specs.declared.PortRegister.TheVariants as r
use Rattle.registers.specs.declared.Operand.{Operand}
use Rattle.registers.specs.declared.Operand.TheVariants as o
use Rattle.commands.specs.declared.Command.{Command}
use Rattle.decisions.specs.declared.Decision.{Decision}
use Rattle.decisions.specs.Changes.{changed}
use Rattle.decisions.specs.Operands.{operand_clause, loaded_clause, packet_clause, timings_clause}
use Rattle.decisions.specs.Events.{command_decision}
use Rattle.decisions.specs.declared.Change.TheVariants as c
use Rattle.commands.specs.declared.Command.TheVariants as k
use Rattle.commands.specs.declared.ExtendedCommand.{ExtendedCommand}
use Rattle.commands.specs.declared.ExtendedCommand.TheVariants as x
use Rattle.bridge.specs.Views.{context_of}
use Rattle.bridge.proofs.View.{operand_change, view_of}
use Rattle.bridge.proofs.Openings.{extended_opening, byte_opening, is_extended}
use Rattle.grammar.proofs.Scans.{going_on}
use Rattle.bridge.proofs.Decisions.{DecisionAgrees, Opens, rejected_row}

module _ (s : State) (b : ℕ) where
  -- no port register is in the view
  port_view : (a : PortRegister) (n : ℕ) → view_of (changed s (c.Store a n)) ≡ between (context_of s)
  port_view r.Ddrb n = refl
  port_view r.Portb n = refl
  port_view r.Ddrc n = refl
  port_view r.Portc n = refl
  port_view r.Ddrd n = refl
  port_view r.Portd n = refl

  -- AFTER 1D
  extended_agrees : (a : ExtendedCommand) → Opens s b (extended_opening b a) (command_decision s (Some (k.Extended a)))
  extended_agrees (x.Pulse a t level u n) = (refl, port_view a _)
  extended_agrees (x.SetBit a t on) = (refl, port_view a _)
  extended_agrees x.LoadCycles = (refl, refl)
  extended_agrees x.ReadCycles = (refl, refl)

  pub after_agrees : (a : Option Command) → is_extended a ≡ true → Opens s b (byte_opening b a) (command_decision s a)
  after_agrees None h = rejected_row s b None 0x80 refl
  after_agrees (Some (k.Common a)) h = absurd (false≢true h)
  after_agrees (Some (k.Extended a)) h = extended_agrees a
  after_agrees (Some (k.I2c a)) h = absurd (false≢true h)
  after_agrees (Some (k.Spi a)) h = absurd (false≢true h)
  after_agrees (Some (k.OneWire a)) h = absurd (false≢true h)

  -- AN OPERAND

  pub operand_agrees : (a : Operand) → DecisionAgrees s (Ok (going (operand_change a) 0 b (context_of s))) (operand_clause s.page a b)
  operand_agrees (o.ToPort a) = (refl, port_view a _)
  operand_agrees o.ToCycles = (refl, refl)
  operand_agrees o.ToI2c = (refl, refl)
  operand_agrees o.ToConfig = (refl, refl)
  operand_agrees o.ToSize = (refl, refl)
  operand_agrees o.ToOneWire = (refl, refl)
  operand_agrees o.ToOneWireBit = (refl, refl)
  operand_agrees o.ToOneWireStrong = (refl, refl)

  -- ONE OF SEVERAL BYTES, where so many were waited for: the decision of the last one, and of another
  counted : (left : ℕ) (p q : Decision) → 1 ≤ left → DecisionAgrees s (Ok (between (context_of s))) p → DecisionAgrees s (Ok (record { context = context_of s; place = Inside Keep (left - 1 - 1) })) q
      → DecisionAgrees s (Ok (going Keep (left - 1) b (context_of s))) (cond (eqb left 1) p q)
  counted left p q h f g = go (eqb left 1) refl
    where
      go : (t : Bool) → eqb left 1 ≡ t → DecisionAgrees s (Ok (going Keep (left - 1) b (context_of s))) (cond t p q)
      go true e =
          let n = eqb-true left 1 e in
          let z : 0 ≡ left - 1 = omega arith in
          (f.0, f.1 ∙ ap (λ (m : ℕ). going Keep m b (context_of s)) z)
      go false e = let n = eqb-false left 1 e in (g.0, g.1 ∙ going_on Keep (left - 1) b (context_of s) (λ z. omega arith))

  loaded_agrees : (at : ℕ) (exchange : Bool) → DecisionAgrees s (Ok (between (context_of s))) (loaded_clause at b exchange)
  loaded_agrees at true = (refl, refl)
  loaded_agrees at false = (refl, refl)

  pub packet_agrees : (left : ℕ) (exchange : Bool) → 1 ≤ left → DecisionAgrees s (Ok (going Keep (left - 1) b (context_of s))) (packet_clause (bits_in s.page) left exchange b)
  packet_agrees left exchange h = counted left _ _ h (loaded_agrees _ exchange) (refl, refl)

  pub timings_agree : (left : ℕ) → 1 ≤ left → DecisionAgrees s (Ok (going Keep (left - 1) b (context_of s))) (timings_clause left b)
  timings_agree left h = counted left _ _ h (refl, refl) (refl, refl)
