-- Every event keeps the ranges: what its decision changes fits them. Assumes nothing.
use Prim.Native.Nat.{ℕ, ◌-◌, ◌≤◌}
use mathlib.Core.Path.{◌≡◌, refl, sym, ap, subst}
use mathlib.Core.Bool.{Bool, true, false, not, cond, ◌&&◌, false≢true}
use mathlib.Core.List.{List}
use native.Mathlib.Omega.{arith}
use borrow.Author.Tests.{eqb-false}
use lib.Dec.{eqb}
use Rattle.codes.proofs.Lookup.{either}
use Rattle.packet.specs.Packet.{packet_bytes}
use Rattle.registers.specs.Registers.{i2c_selected, spi_selected, one_wire_selected, bits_in, with_drop}
use Rattle.registers.specs.Ranges.{PageInRange, PacketWait, InRange}
use Rattle.registers.specs.declared.State.{State}
use Rattle.registers.specs.declared.PortRegister.TheVariants as r
use Rattle.registers.specs.declared.Operand.{Operand}
use Rattle.registers.specs.declared.Operand.TheVariants as o
use Rattle.registers.specs.declared.Wait.{Wait}
use Rattle.registers.specs.declared.Wait.TheVariants as v
use Rattle.registers.specs.declared.Event.{Event}
use Rattle.registers.specs.declared.Event.TheVariants as e
use Rattle.registers.proofs.InRange.{idle_is, wait_as}
use Rattle.commands.specs.Commands.{command_of, extended_command_of}
use Rattle.commands.specs.declared.Command.{Command}
use Rattle.registers.specs.declared.Bit.TheVariants.{Three, Four}
use Rattle.decisions.specs.Decisions.{Decision, dropped}
use Rattle.commands.specs.Legality.{spi_needs_configuration, legality_of}
use Rattle.std.specs.Prelude.{Option, Some, None, Result, Ok, Err, ⊤}
use Rattle.decisions.specs.Rejections.{reads_configuration}
use Rattle.decisions.specs.Common.{common_clause}
use Rattle.decisions.specs.Extended.{extended_clause}
use Rattle.decisions.specs.I2c.{i2c_clause}
use Rattle.decisions.specs.Spi.{spi_clause}
use Rattle.decisions.specs.OneWire.{one_wire_clause}
use Rattle.decisions.specs.Changes.{changed}
use Rattle.decisions.specs.Operands.{operand_clause, loaded_clause}
use Rattle.decisions.specs.Effects.{effect_from}
use Rattle.decisions.specs.Events.{clause_of, command_decided, command_decision, byte_decision, decision_of, drop_after, drop_marked, effect_of}
use Rattle.decisions.specs.Promises.{Keeps, DropsAfter}
use Rattle.commands.specs.declared.Command.TheVariants as k
use Rattle.commands.specs.declared.CommonCommand.{CommonCommand}
use Rattle.commands.specs.declared.CommonCommand.TheVariants as m
use Rattle.commands.specs.declared.ExtendedCommand.{ExtendedCommand}
use Rattle.commands.specs.declared.ExtendedCommand.TheVariants as x
use Rattle.commands.specs.declared.I2cCommand.{I2cCommand}
use Rattle.commands.specs.declared.I2cCommand.TheVariants as i
use Rattle.commands.specs.declared.SpiCommand.{SpiCommand}
use Rattle.commands.specs.declared.SpiCommand.TheVariants as p
use Rattle.commands.specs.declared.OneWireCommand.{OneWireCommand}
use Rattle.commands.specs.declared.OneWireCommand.TheVariants as w
use Rattle.wire.proofs.Choices.{at_most}
use Rattle.decisions.proofs.KeptParts.{protected_fits, bit_fits, register_fits, flag_count}
use Rattle.decisions.proofs.Changes.{Free, Fitting, drop_same, change_marked, change_keeps}
use Rattle.commands.proofs.Legal.{LegalHere, legal_here}

-- one of more than one is left
below_one : (left : ℕ) → 1 ≤ left → (left ≡ 1 → ⊥) → 1 ≤ left - 1
below_one left h ne = omega arith

module _ (s : State) (n : InRange s) where
  abbrev q : PageInRange s.page
  q = n.page

  abbrev Fit : Decision → Type 0
  Fit d = Fitting s d.change

  common_fits : Free s.wait → (c : CommonCommand) → Fit (common_clause s c)
  common_fits f m.ResetDevice = f
  common_fits f m.SelectI2c = (f, omega arith, rw (flag_count s.page.flags 1 (omega arith)) (omega arith))
  common_fits f m.SelectSpi = (f, omega arith, rw (flag_count s.page.flags 2 (omega arith)) (omega arith))
  common_fits f m.SelectOneWire = (f, omega arith, rw (flag_count s.page.flags 4 (omega arith)) (omega arith))
  common_fits f m.ReadError = tt
  common_fits f m.SaveToEprom = tt
  common_fits f m.ReadFromEprom = tt
  common_fits f (m.SetReports on) = (f, omega (arith, q.flag_bits, at_most on 1), omega arith)
  common_fits f (m.SetAutoload on) = (f, omega (arith, q.flag_bits, at_most on 1), omega arith)
  common_fits f (m.SetupPort a) = tt
  common_fits f (m.ReadPort a) = tt
  common_fits f (m.ReadPins a) = tt
  common_fits f m.ReadFlags = tt
  common_fits f m.ReadVersion = tt
  common_fits f m.SetIog = bit_fits r.Portd Three true _ (bit_fits r.Portd Four true s.page.portd q.d_latch)
  common_fits f m.DoExtended = tt
  common_fits f m.ReadSerial = tt

  extended_fits : (c : ExtendedCommand) → Fit (extended_clause s c)
  extended_fits (x.Pulse a b level u t) = bit_fits a b (not level) _ (bit_fits a b level _ (register_fits s.page a q))
  extended_fits (x.SetBit a b on) = bit_fits a b on _ (register_fits s.page a q)
  extended_fits x.LoadCycles = tt
  extended_fits x.ReadCycles = tt

  i2c_fits : i2c_selected s.page.flags ≡ true → (c : I2cCommand) → Fit (i2c_clause c)
  i2c_fits t i.SendStart = tt
  i2c_fits t i.SendStop = tt
  i2c_fits t i.SendByte = t
  i2c_fits t (i.ReadByte a) = tt
  i2c_fits t (i.DriveCs a) = tt
  i2c_fits t i.ReadCs = tt

  packet_waits : spi_selected s.page.flags ≡ true → s.page.configured ≡ true → PacketWait s.page.flags s.page.configured (bits_in s.page) (packet_bytes (bits_in s.page))
  packet_waits t c = record { spi_selected = t; spi_configured = c; one_or_more = omega arith; packet_or_less = omega arith }

  spi_fits : spi_selected s.page.flags ≡ true → (c : SpiCommand) → (spi_needs_configuration c ≡ true → s.page.configured ≡ true) → Fit (spi_clause s.page.config s.page.size c)
  spi_fits t p.LoadConfig h = t
  spi_fits t p.ReadConfig h = tt
  spi_fits t p.LoadSize h = t
  spi_fits t p.ReadSize h = tt
  spi_fits t (p.LoadPacket exchange) h = packet_waits t (h refl)
  spi_fits t p.ReadPacket h = tt
  spi_fits t p.StartExchange h = tt
  spi_fits t (p.DriveSs a) h = tt
  spi_fits t p.ReadSs h = tt
  spi_fits t p.ReadLow h = tt
  spi_fits t p.ExchangeAndRead h = tt

  one_wire_fits : one_wire_selected s.page.flags ≡ true → (c : OneWireCommand) → Fit (one_wire_clause c)
  one_wire_fits t w.SendReset = tt
  one_wire_fits t w.SendByte = t
  one_wire_fits t w.SendBit = t
  one_wire_fits t w.SendStrong = t
  one_wire_fits t w.ReadByte = tt
  one_wire_fits t w.ReadBit = tt
  one_wire_fits t w.LoadTimings = record { one_wire_selected = t; one_or_more = omega arith; nine_or_less = omega arith }
  one_wire_fits t w.ReadTimings = tt
  one_wire_fits t w.ReleaseDq = tt
  one_wire_fits t (w.PulsePb7 a b) = tt

  clause_fits : Free s.wait → (c : Command) → LegalHere s.page.flags s.page.configured (Some c) → Fit (clause_of s c)
  clause_fits f (k.Common c) l = common_fits f c
  clause_fits f (k.Extended c) l = extended_fits c
  clause_fits f (k.I2c c) l = i2c_fits l.selected c
  clause_fits f (k.Spi c) l = spi_fits l.selected c l.configured
  clause_fits f (k.OneWire c) l = one_wire_fits l.selected c

  decided_fits : Free s.wait → (c : Option Command) → Fit (command_decision s c)
  decided_fits f None = tt
  decided_fits f (Some c) = go (legality_of s.page.flags s.page.configured (Some c)) refl
    where
      go : (l : Result ⊤ ℕ) → legality_of s.page.flags s.page.configured (Some c) ≡ l → Fit (command_decided s c l)
      go (Ok u) h = clause_fits f c (legal_here s.page.flags s.page.configured (Some c) h)
      go (Err code) h = either Fit (eqb code 0x40 && reads_configuration c) _ _ tt tt

  operand_fits_lem : (a : Operand) (b : ℕ) → Fit (operand_clause s.page a b)
  operand_fits_lem (o.ToPort a) b = protected_fits s.page a b q
  operand_fits_lem o.ToCycles b = tt
  operand_fits_lem o.ToI2c b = tt
  operand_fits_lem o.ToConfig b = omega arith
  operand_fits_lem o.ToSize b = omega arith
  operand_fits_lem o.ToOneWire b = tt
  operand_fits_lem o.ToOneWireBit b = tt
  operand_fits_lem o.ToOneWireStrong b = tt

  loaded_fits : (at b : ℕ) (exchange : Bool) → Fit (loaded_clause at b exchange)
  loaded_fits at b true = tt
  loaded_fits at b false = tt

  -- the last of several bytes, or another
  last_or_not : (left : ℕ) (d g : Decision) → Fit d → ((left ≡ 1 → ⊥) → Fit g) → Fit (cond (eqb left 1) d g)
  last_or_not left d g h l = go (eqb left 1) refl
    where
      go : (t : Bool) → eqb left 1 ≡ t → Fit (cond t d g)
      go true z = h
      go false z = l (eqb-false left 1 z)

  byte_fits : (a : Wait) (b : ℕ) → s.wait ≡ a → Fit (byte_decision s a b)
  byte_fits v.Nothing b z = decided_fits (rw z (λ f c n. tt)) (command_of b)
  byte_fits (v.One a) b z = operand_fits_lem a b
  byte_fits v.Extended b z = decided_fits (rw z (λ f c n. tt)) (extended_command_of b)
  byte_fits (v.Packet left exchange) b z =
      let t = wait_as s (v.Packet left exchange) n z in
      last_or_not left _ _ (loaded_fits _ b exchange) (λ ne. record { spi_selected = t.spi_selected; spi_configured = t.spi_configured; one_or_more = below_one left t.one_or_more ne; packet_or_less = omega (arith, t.packet_or_less) })
  byte_fits (v.Timings left) b z =
      let t = wait_as s (v.Timings left) n z in
      last_or_not left _ _ tt (λ ne. record { one_wire_selected = t.one_wire_selected; one_or_more = below_one left t.one_or_more ne; nine_or_less = omega (arith, t.nine_or_less) })

  pub decision_keeps : (a : Event) → InRange (changed (drop_marked s a) (decision_of s a).change)
  decision_keeps (e.Byte b) = go s.drop refl
    where
      go : (t : Bool) → s.drop ≡ t → InRange (changed (with_drop s false) (cond t dropped (byte_decision s s.wait b)).change)
      go true u = record { page = n.page; wait = n.wait; no_drop_beside_a_wait = λ p. absurd (false≢true p) }
      go false u = let d = byte_decision s s.wait b in subst (λ (t : State). InRange (changed t d.change)) (sym (drop_same s u)) (change_keeps s d.change n u (byte_fits s.wait b refl))
  decision_keeps (e.Fault f) = record { page = n.page; wait = n.wait; no_drop_beside_a_wait = idle_is s.wait }

-- ERROR and a received packet are in no range
pub event_keeps : (s : State) (a : Event) (ss : List ℕ) (m : ℕ) → Keeps s a ss m
unfolding effect_of effect_from
event_keeps s a ss m n = let kept = decision_keeps s n a in record { page = kept.page; wait = kept.wait; no_drop_beside_a_wait = kept.no_drop_beside_a_wait }

pub event_drop : (s : State) (a : Event) (ss : List ℕ) (m : ℕ) → DropsAfter s a ss m
unfolding effect_of effect_from
event_drop s a ss m = ap (λ (t : State). t.drop) (change_marked s (drop_after s.wait a) (decision_of s a).change)
